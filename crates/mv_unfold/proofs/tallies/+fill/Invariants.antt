use Rattle.std.proofs.Common.{ℕ, ◌<◌, get_or}
use Rattle.mv_unfold.specs.Commands.{no_command}
use Rattle.mv_unfold.specs.Driven.{AreMore, AreTallies, IsKnown}
use Rattle.mv_unfold.proofs.tallies.+fill.Given as goal

abbrev pub decreases-fill : goal.decreases-fill
decreases-fill l = l.levels

abbrev pub invariant-loop-command : goal.invariant-loop-command
invariant-loop-command l = record {
  right : AreTallies l.layout l.slots;
  more : AreMore l.fn.slots l.slots;
  known : (j : ℕ) → j < l.command-index → IsKnown l.slots (get_or l.row j no_command).model;
}

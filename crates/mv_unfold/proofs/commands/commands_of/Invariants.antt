use Rattle.std.proofs.Common.{◌≡◌, ℕ, ◌<◌, length, get_or}
use Rattle.mv_unfold.specs.Commands.{IsCommand, no_command}
use Rattle.mv_unfold.specs.Placed.{no_instance}
use Rattle.mv_unfold.proofs.commands.commands_of.Given as goal

abbrev pub invariant-loop-instance : goal.invariant-loop-instance
invariant-loop-instance l = record {
  long : length l.row ≡ l.instance-index;
  each : (j : ℕ) → j < length l.row → IsCommand l.models (get_or l.instances j no_instance) (get_or l.row j no_command);
}

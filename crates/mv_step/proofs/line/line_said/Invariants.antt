use Rattle.std.proofs.Common.{◌≡◌, length}
use Rattle.mv_step.specs.Lines.{line_said}
use Rattle.mv_step.specs.Reading.{with_lits}
use Rattle.mv_step.proofs.line.line_said.Given as goal

abbrev pub invariant-pairs : goal.invariant-pairs
invariant-pairs l = with_lits l.lits (line_said l.left) ≡ line_said l.words

abbrev pub decreases-pairs : goal.decreases-pairs
decreases-pairs l = length l.left

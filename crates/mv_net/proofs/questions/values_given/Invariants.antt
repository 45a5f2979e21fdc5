use Rattle.std.proofs.Common.{◌≡◌, ℕ, take}
use Rattle.mv_base.specs.Set.{has}
use Rattle.mv_net.specs.Plain.{some_has}
use Rattle.mv_net.proofs.questions.values_given.Given as goal

abbrev pub invariant-loop-line : goal.invariant-loop-line
invariant-loop-line l = (v : ℕ) → has l.given v ≡ some_has (take l.line-index l.lines) v

use Rattle.std.proofs.Common.{◌≡◌, ◌<◌, ◌≤◌, ℕ, false}
use Rattle.mv_base.specs.Set.{has}
use Rattle.mv_solve.proofs.first.first_in.Given as goal

abbrev pub invariant-loop-value : goal.invariant-loop-value
invariant-loop-value l = (u : ℕ) → l.start ≤ u → u < l.value → has l.set u ≡ false

-- Some assignment shows each step before this one.
use Rattle.std.proofs.Common.{◌≡◌, ◌<◌, ℕ}
use Rattle.mv_tracing.specs.Steps.{IsStepShown}
use Rattle.mv_tracing.proofs.deciding.first_unshown.Given as goal

abbrev pub invariant-loop-k : goal.invariant-loop-k
invariant-loop-k l = record {
  before : (j : ℕ) → j < l.k → IsStepShown l.net l.run j;
  order : l.solver.order ≡ l.fn.solver.order;
}

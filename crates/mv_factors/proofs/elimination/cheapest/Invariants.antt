use Rattle.std.proofs.Common.{◌<◌, ℕ, get_or, IfNone, IfSome}
use Rattle.mv_factors.specs.declared.inner.Inner.{Inner}
use Rattle.mv_factors.specs.Seen.{IsDone, IsNext}
use Rattle.mv_factors.proofs.elimination.cheapest.Given as goal

abbrev pub invariant-loop-one : goal.invariant-loop-one
invariant-loop-one l = record {
  some : IfSome l.least (IsNext l.inner l.work.left.items);
  none : IfNone l.least ((k : ℕ) (i : Inner) → k < l.one-index → IsDone l.work.left.items l.given (get_or l.inner k i));
}

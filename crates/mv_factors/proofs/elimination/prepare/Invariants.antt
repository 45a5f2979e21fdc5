use Rattle.std.proofs.Common.{◌≡◌, ◌≤◌, ◌<◌, ℕ, true, length, get_or, vec_capacity}
use Rattle.mv_pool.specs.Walks.{mark}
use Rattle.mv_factors.specs.declared.inner.Inner.{Inner}
use Rattle.mv_factors.proofs.elimination.prepare.Given as goal

abbrev pub invariant-loop-one : goal.invariant-loop-one
invariant-loop-one l = record {
  rows : l.work.rows ≡ l.fn.work.rows;
  sizes : vec_capacity l.fn.work.sizes ≤ vec_capacity l.work.sizes;
  costs : vec_capacity l.fn.work.costs ≤ vec_capacity l.work.costs;
  left : vec_capacity l.fn.work.left ≤ vec_capacity l.work.left;
  long : length l.work.left.items ≡ l.vars;
  marked : (k : ℕ) (i : Inner) → k < l.one-index → mark l.work.left.items (get_or l.inner k i).var ≡ true;
}

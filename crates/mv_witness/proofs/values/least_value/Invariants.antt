use Rattle.std.proofs.Common.{◌≡◌, ◌<◌, ℕ, length}
use Rattle.mv_factors.specs.Families.{Keeps, before}
use Rattle.mv_witness.specs.Commons.{CanBe}
use Rattle.mv_witness.proofs.values.least_value.Given as goal

abbrev pub invariant-loop-value : goal.invariant-loop-value
invariant-loop-value l = record {
  keeps : Keeps l.fn.factors l.factors (before (length l.fn.factors.list));
  long : length l.factors.list ≡ length l.fn.factors.list;
  same : l.commons ≡ l.fn.commons;
  none : (v : ℕ) → v < l.value → CanBe l.fn.factors l.from l.var v → ⊥;
}

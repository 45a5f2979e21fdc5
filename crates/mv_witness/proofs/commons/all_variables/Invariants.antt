use Rattle.std.proofs.Common.{◌≡◌, ◌<◌, ℕ, true, All}
use Rattle.mv_factors.specs.declared.inner.Inner.{Inner}
use Rattle.mv_factors.specs.Leaving.{is_inner}
use Rattle.mv_witness.proofs.commons.all_variables.Given as goal

abbrev pub invariant-loop-var : goal.invariant-loop-var
invariant-loop-var l = record {
  within : All (λ (i : Inner). i.var < l.count) l.all.items;
  every : (v : ℕ) → v < l.var → is_inner l.all.items v ≡ true;
}

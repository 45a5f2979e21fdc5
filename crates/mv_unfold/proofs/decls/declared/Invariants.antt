use Rattle.std.proofs.Common.{◌≡◌, ℕ, ◌<◌, length, get_or}
use Rattle.mv_design.specs.Nets.{no_model}
use Rattle.mv_design.specs.Values.{declared_of}
use Rattle.mv_unfold.specs.ByName.{FindsFirst}
use Rattle.mv_unfold.specs.Joined.{no_places}
use Rattle.mv_unfold.proofs.decls.declared.Given as goal

abbrev pub invariant-loop-model : goal.invariant-loop-model
invariant-loop-model l = record {
  long : length l.all ≡ l.model-index;
  each : (k : ℕ) → k < length l.all → FindsFirst (get_or l.all k no_places) (declared_of (get_or l.models k no_model).decls);
}

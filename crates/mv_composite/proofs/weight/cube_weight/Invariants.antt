use Rattle.std.proofs.Common.{◌≡◌, ◌+◌, ◌*◌, ◌≤◌, take}
use Rattle.mv_base.specs.declared.limits.TheConstants.{MAX_VALUES}
use Rattle.mv_composite.specs.Weights as spec
use Rattle.mv_composite.specs.Weights.{AreCounted}
use Rattle.mv_composite.proofs.weight.cube_weight.Given as goal

abbrev pub invariant-loop-l : goal.invariant-loop-l
invariant-loop-l l = record {
  value : l.weight ≡ spec.cube_weight (take l.l-index l.l-items);
  counted : AreCounted (take l.l-index l.l-items);
  low : l.weight ≤ (MAX_VALUES + 1) * l.l-index;
}

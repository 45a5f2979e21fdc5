use Rattle.std.proofs.Common.{◌≤◌, subst, arith}
use Rattle.std.specs.Prelude.{count_ones}
use Rattle.std.proofs.lemmas.List.Elements.{All-more}
use Rattle.mv_base.specs.declared.limits.TheConstants.{MAX_VALUES}
use Rattle.mv_cover.specs.Literal.{Lit}
use Rattle.mv_composite.proofs.Weights.{weight_next}
use Rattle.mv_composite.proofs.weight.cube_weight.Goals as goal

pub loop-l-preserved : goal.loop-l-preserved
loop-l-preserved c =
    let P = λ (l : Lit). count_ones l.set ≤ MAX_VALUES in
    let own = c.from-weight.ensures in
    record {
      value = weight_next c.lits-l-items.result.now c.loop-l.l-index c.l-item.result c.loop-l.weight c.from-weight.result c.loop-l-test.true c.l-item.is c.loop-l.invariant.value (cc (c.set_weight.ensures.value, c.set.ensures));
      counted = All-more P c.lits-l-items.result.now c.loop-l.l-index c.l-item.result c.loop-l-test.true c.loop-l.invariant.counted (subst P c.l-item.is (rw c.set.ensures at c.set_weight.ensures.counted));
      low = omega (arith, c.set_weight.ensures.low);
    }

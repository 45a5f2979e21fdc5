-- One cube more is counted.
use Rattle.std.proofs.Common.{◌≡◌, List, length, get_or, ap, subst, arith}
use Rattle.std.proofs.lemmas.List.Elements.{All-more}
use Rattle.std.proofs.lemmas.List.Sums.{sum_by_more}
use Rattle.mv_cover.specs.Literal.{Lit}
use Rattle.mv_cover.specs.Cubes.{IsCube}
use Rattle.mv_saving.proofs.saved.literals.Goals as goal

pub loop-cube-preserved : goal.loop-cube-preserved
loop-cube-preserved c =
    let i = c.loop-cube.cube-index in
    let cube = c.cube-item.result in
    let more = sum_by_more (λ (q : List Lit). length q) c.args.cubes.now i cube c.loop-cube-test.true in
    let same : length cube ≡ length (get_or c.args.cubes.now i cube) = ap (λ (q : List Lit). length q) c.cube-item.is in
    record {
      total = omega (arith, c.loop-cube.invariant.total, c.size-total.ensures.value, more, same);
      few = omega (arith, c.loop-cube.invariant.few, c.size-total.ensures.short);
      formed = All-more IsCube c.args.cubes.now i cube c.loop-cube-test.true c.loop-cube.invariant.formed (subst IsCube c.cube-item.is c.size-total.ensures.formed);
    }

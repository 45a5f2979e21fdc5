use Rattle.std.proofs.Common.{◌≡◌, take, length, sym, subst, arith}
use Rattle.std.proofs.lemmas.List.{length-take-le}
use Rattle.std.specs.List.{IsDistinct}
use Rattle.mv_cover.specs.Equal.{lit_eq}
use Rattle.mv_gains.specs.Holders.{places_in}
use Rattle.mv_gains.proofs.Commons.{common_more, formed_more, held_more}
use Rattle.mv_meets.proofs.Once.{literals_once}
use Rattle.mv_gains.proofs.Sums.{ascends_at}
use Rattle.mv_gains.proofs.cubes.common_cubes.Goals as goal

pub add_cube-requires : goal.add_cube-requires
add_cube-requires c l k d low =
    let long : length (take c.loop-number.number c.args.cubes.now) ≡ c.loop-number.number = length-take-le c.loop-number.number c.args.cubes.now (omega (arith, c.loop-number-test.true)) in
    let at = ascends_at 0 (length (take c.loop-number.number c.args.cubes.now)) (places_in c.loop-number.holders l) k d (c.loop-number.invariant.held l).ascending low in
    omega (arith, at, long, c.loop-number-test.true)

pub note_all-requires : goal.note_all-requires
note_all-requires c = subst (IsDistinct lit_eq) (sym c.lits.ensures.lits) (literals_once c.index-cubes-number.result c.lits.ensures.formed)

pub loop-number-preserved : goal.loop-number-preserved
loop-number-preserved c =
    let cubes = c.args.cubes.now in
    let i = c.loop-number.number in
    let cube = c.index-cubes-number.result in
    let places = places_in c.loop-number.holders in
    let old = c.loop-number.found.keys in
    let new = c.add_cube.new.found.keys in
    let v = c.loop-number.invariant in
    record {
      common = common_more cubes i cube places old new c.loop-number-test.true c.index-cubes-number.is c.lits.ensures.formed v.formed v.held v.common c.in_ok-add_cube.ensures;
      formed = formed_more cubes i cube places old new c.loop-number-test.true c.index-cubes-number.is c.lits.ensures.formed v.formed v.held v.common c.in_ok-add_cube.ensures;
      held = held_more cubes i cube places old new c.loop-number-test.true c.index-cubes-number.is c.lits.ensures.formed v.formed v.held v.common c.in_ok-add_cube.ensures (places_in c.note_all.new.holders) c.lits.result.now c.lits.ensures.lits c.in_ok-note_all.ensures;
    }

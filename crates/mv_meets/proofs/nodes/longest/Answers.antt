use Rattle.std.proofs.Common.{ℕ, ◌≤◌, All, length, subst, arith}
use Rattle.std.proofs.lemmas.List.{take_all}
use Rattle.mv_meets.specs.Meets.{at}
use Rattle.mv_meets.proofs.Covering.{longest_more}
use Rattle.mv_meets.proofs.nodes.longest.Goals as goal

pub loop-place-preserved : goal.loop-place-preserved
loop-place-preserved c =
    let long : length c.index-cubes-place.result ≤ c.greater-longest.result = omega (arith, c.greater-longest.ensures.second, c.len.ensures.value) in
    record {
      longest =
          longest_more c.args.cubes.now c.args.places.now c.loop-place.place-index c.loop-place.longest c.greater-longest.result c.index-cubes-place.result c.loop-place-test.true (c.requires c.loop-place.place-index 0 c.loop-place-test.true) c.index-cubes-place.is c.greater-longest.ensures.first long c.loop-place.invariant.longest;
      short = c.greater-longest.ensures.short;
    }

pub returns-clause-longest : goal.returns-clause-longest
returns-clause-longest c =
    subst (All (λ (p : ℕ). length (at c.args.cubes.now p) ≤ c.loop-place.longest)) (take_all c.loop-place.place-index c.args.places.now c.loop-place-test.false) c.loop-place.invariant.longest

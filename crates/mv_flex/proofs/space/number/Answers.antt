-- Each value counts with the weight of the numbers of values before it.
use Rattle.std.proofs.Common.{get_or, sym, arith}
use Rattle.std.proofs.lemmas.Grind.{get_or_default_zero}
use Rattle.mv_flex.proofs.Numbering.{place_low, number_more, number_fits, ways_fit, ways_more}
use Rattle.mv_flex.proofs.space.number.Goals as goal

pub offset_bounds-places-place : goal.offset_bounds-places-place
offset_bounds-places-place c = omega (arith, place_low c.args.counts.now c.args.places.now c.args.values.now c.loop-place.place 0 0 0 c.requires.below c.loop-place-test.true)

pub bounds-places-place : goal.bounds-places-place
bounds-places-place c = place_low c.args.counts.now c.args.places.now c.args.values.now c.loop-place.place 0 0 0 c.requires.below c.loop-place-test.true

pub overflow_mul-number : goal.overflow_mul-number
overflow_mul-number c =
    omega (arith, c.requires.few, number_fits c.args.counts.now c.args.places.now c.args.values.now c.loop-place.place c.value_in-value.result c.loop-place.number c.loop-place.weight c.requires.below c.loop-place-test.true c.value_in-value.ensures c.loop-place.invariant.sum)

pub overflow_add-number : goal.overflow_add-number
overflow_add-number c =
    omega (arith, c.requires.few, number_fits c.args.counts.now c.args.places.now c.args.values.now c.loop-place.place c.value_in-value.result c.loop-place.number c.loop-place.weight c.requires.below c.loop-place-test.true c.value_in-value.ensures c.loop-place.invariant.sum)

pub overflow_mul-weight : goal.overflow_mul-weight
overflow_mul-weight c =
    omega (arith, c.requires.few, ways_fit c.args.counts.now c.loop-place.place (get_or c.args.counts.now c.loop-place.place 0) c.loop-place.weight c.loop-place-test.true (sym (get_or_default_zero c.args.counts.now c.loop-place.place (get_or c.args.counts.now c.loop-place.place 0) c.loop-place-test.true)) c.requires.some c.loop-place.invariant.fit)

pub loop-place-preserved : goal.loop-place-preserved
loop-place-preserved c = record {
  sum = number_more c.args.counts.now c.args.places.now c.args.values.now c.loop-place.place c.value_in-value.result c.loop-place.number c.loop-place.weight c.requires.below c.loop-place-test.true c.value_in-value.ensures c.loop-place.invariant.sum;
  fit = ways_more c.args.counts.now c.loop-place.place (get_or c.args.counts.now c.loop-place.place 0) c.loop-place.weight c.loop-place-test.true (sym (get_or_default_zero c.args.counts.now c.loop-place.place (get_or c.args.counts.now c.loop-place.place 0) c.loop-place-test.true)) c.loop-place.invariant.fit;
}

-- One line more adds its literals to the sum of its value.
use Rattle.std.proofs.Common.{◌≡◌, ◌∙◌, ◌+◌, slice_index, slice_set, ap, sym, arith}
use Rattle.std.proofs.lemmas.Grind.{get_or_default_zero}
use Rattle.mv_default.proofs.Summed.{place_below, sum_fits, sums_next}
use Rattle.mv_default.proofs.costly.literal_sums.Goals as goal

pub index_mut-requires : goal.index_mut-requires
index_mut-requires c =
    let low = place_below c.args.lines.now c.args.values c.loop-line.line-index c.loop-line.sums.items c.loop-line.sums.items c.line-item.result c.value_of-place.result.0 0 c.loop-line-test.true c.line-item.is c.requires.within c.value_of-place.ensures c.loop-line.invariant in
    omega (arith, low, c.loop-line.invariant.long, c.loop-line.sums.ok.0)

pub overflow_add-index_mut : goal.overflow_add-index_mut
overflow_add-index_mut c =
    let fits = sum_fits c.args.lines.now c.args.values c.loop-line.line-index c.loop-line.sums.items c.loop-line.sums.items c.line-item.result c.value_of-place.result.0 c.len.result c.loop-line-test.true c.line-item.is c.requires.within c.value_of-place.ensures c.loop-line.invariant c.len.ensures.value in
    let low = place_below c.args.lines.now c.args.values c.loop-line.line-index c.loop-line.sums.items c.loop-line.sums.items c.line-item.result c.value_of-place.result.0 0 c.loop-line-test.true c.line-item.is c.requires.within c.value_of-place.ensures c.loop-line.invariant in
    let at = get_or_default_zero c.loop-line.sums.items c.value_of-place.result.0 c.index_mut.result.now (omega (arith, low, c.loop-line.invariant.long)) in
    omega (arith, fits, c.requires.few, c.index_mut.ensures.value, at)

pub loop-line-preserved : goal.loop-line-preserved
loop-line-preserved c =
    let low = place_below c.args.lines.now c.args.values c.loop-line.line-index c.loop-line.sums.items c.loop-line.sums.items c.line-item.result c.value_of-place.result.0 0 c.loop-line-test.true c.line-item.is c.requires.within c.value_of-place.ensures c.loop-line.invariant in
    let at = get_or_default_zero c.loop-line.sums.items c.value_of-place.result.0 c.index_mut.result.now (omega (arith, low, c.loop-line.invariant.long)) in
    sums_next c.args.lines.now c.args.values c.loop-line.line-index c.loop-line.sums.items _ c.line-item.result c.value_of-place.result.0 c.len.result c.loop-line-test.true c.line-item.is c.requires.within c.value_of-place.ensures c.loop-line.invariant c.len.ensures.value
    (ap (λ n. slice_set c.loop-line.sums.items c.value_of-place.result.0 (n + c.len.result)) (c.index_mut.ensures.value ∙ at))

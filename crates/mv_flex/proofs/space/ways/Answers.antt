-- The product so far and one more factor are no more than the whole product.
use Rattle.std.proofs.Common.{◌*◌, ◌≤◌, get_or, sym, arith}
use Rattle.std.proofs.lemmas.Grind.{get_or_default_zero}
use Rattle.mv_flex.specs.Spaces.{ways}
use Rattle.mv_flex.proofs.Numbering.{ways_fit, ways_more}
use Rattle.mv_flex.proofs.space.ways.Goals as goal

pub overflow_mul-product : goal.overflow_mul-product
overflow_mul-product c =
    let fit : c.loop-count.product * get_or c.args.counts.now c.loop-count.count-index 0 ≤ ways c.args.counts.now =
    ways_fit c.args.counts.now c.loop-count.count-index (get_or c.args.counts.now c.loop-count.count-index 0) c.loop-count.product c.loop-count-test.true (sym (get_or_default_zero c.args.counts.now c.loop-count.count-index (get_or c.args.counts.now c.loop-count.count-index 0) c.loop-count-test.true)) c.requires.some c.loop-count.invariant in
    omega (arith, fit, c.requires.few)

pub loop-count-preserved : goal.loop-count-preserved
loop-count-preserved c =
    ways_more c.args.counts.now c.loop-count.count-index (get_or c.args.counts.now c.loop-count.count-index 0) c.loop-count.product c.loop-count-test.true (sym (get_or_default_zero c.args.counts.now c.loop-count.count-index (get_or c.args.counts.now c.loop-count.count-index 0) c.loop-count-test.true)) c.loop-count.invariant

use Rattle.std.proofs.Common.{◌≤◌, None, sym, ◌∙◌, arith, ap}
use Rattle.std.proofs.lemmas.List.{get_or_past}
use Rattle.mv_pool.specs.Places.{least_free}
use Rattle.mv_base.proofs.Lists.{none_from}
use Rattle.mv_pool.proofs.Placing.{least-le, least-more}
use Rattle.mv_pool.proofs.Walking.{read_any}
use Rattle.std.specs.Option.{is_some}
use Rattle.mv_pool.proofs.pool.next_free.Goals as goal

pub loop-at-preserved : goal.loop-at-preserved
loop-at-preserved g c =
    let there = read_any c.args.places.now c.loop-at.at c.index-places-at.result None c.loop-at-test.true c.index-places-at.is in
    least-more c.args.places.now c.loop-at.at c.loop-at.invariant (ap is_some there ∙ sym c.is_some.ensures ∙ c.if-is_some.true)

pub returns-else-is_some : goal.returns-else-is_some
returns-else-is_some g c =
    let there = read_any c.args.places.now c.loop-at.at c.index-places-at.result None c.loop-at-test.true c.index-places-at.is in
    let low : least_free c.args.places.now ≤ c.loop-at.at = least-le c.args.places.now c.loop-at.at (there ∙ none_from c.index-places-at.result (sym c.is_some.ensures ∙ c.if-is_some.false)) in
    omega arith

pub returns-after-loop-at : goal.returns-after-loop-at
returns-after-loop-at g c =
    let low : least_free c.args.places.now ≤ c.loop-at.at = least-le c.args.places.now c.loop-at.at (get_or_past c.args.places.now c.loop-at.at None c.loop-at-test.false) in
    omega arith

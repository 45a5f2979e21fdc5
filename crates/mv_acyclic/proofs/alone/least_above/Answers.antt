-- Net by net, each behind its columns, whose least numbers are known.
use Rattle.std.proofs.Common.{◌≡◌, ◌∙◌, [], ap, sym, subst, arith, get_or, length}
use Rattle.std.proofs.lemmas.List.{get_or_default}
use Rattle.mv_base.specs.declared.number.NetId.{NetId}
use Rattle.mv_graph.specs.Nets.{row}
use Rattle.mv_acyclic.specs.Alone.{IsLeastAbove, least_from}
use Rattle.mv_acyclic.proofs.Least.{done_next, least_behind, small_columns, sorted_below}
use Rattle.mv_acyclic.proofs.alone.least_above.Goals as goal

pub bounds-columns-at : goal.bounds-columns-at
bounds-columns-at c = sorted_below c.args.columns.now c.args.order.now c.loop-net.net-index _ c.requires.order c.loop-net-test.true

pub least_of-least-requires : goal.least_of-least-requires
least_of-least-requires c =
    let none : NetId = record { 0 = 0 } in
    let low = sorted_below c.args.columns.now c.args.order.now c.loop-net.net-index none c.requires.order c.loop-net-test.true in
    rw c.as_slice-in-loop-net.ensures
    (small_columns c.args.columns.now (get_or c.args.order.now c.loop-net.net-index none).0 (length c.as_slice.result.now) c.index-columns-at.result
    c.requires.below low
    (ap length c.as_slice.ensures.value ∙ c.loop-net.invariant.long) c.index-columns-at.is)

pub index_mut-requires : goal.index_mut-requires
index_mut-requires c =
    let l = sorted_below c.args.columns.now c.args.order.now c.loop-net.net-index (record { 0 = 0 }) c.requires.order c.loop-net-test.true in
    let s = c.loop-net.invariant.long in
    omega (arith, l, s, c.loop-net.above.ok.0)

pub loop-net-preserved : goal.loop-net-preserved
loop-net-preserved c =
    let columns = c.args.columns.now in
    let order = c.args.order.now in
    let i = c.loop-net.net-index in
    let none : NetId = record { 0 = 0 } in
    let net = get_or order i none in
    let above = c.loop-net.above.items in
    let own = c.within.result in
    let is : net ≡ get_or order i net = get_or_default order i none net c.loop-net-test.true in
    let low = sorted_below columns order i none c.requires.order c.loop-net-test.true in
    let read : c.as_slice-in-loop-net.result.now ≡ row columns net.0 =
    c.as_slice-in-loop-net.ensures ∙ (c.index-columns-at.is ∙ get_or_default columns net.0 c.index-columns-at.result [] low) in
    let least : c.least_of-least.result ≡ least_from above own (row columns net.0) =
    c.least_of-least.ensures
    ∙ (ap (λ us. least_from us own c.as_slice-in-loop-net.result.now) c.as_slice.ensures.value ∙ ap (least_from above own) read) in
    done_next columns c.args.low c.args.high order i net above c.least_of-least.result c.loop-net-test.true is low c.loop-net.invariant
    (subst (IsLeastAbove columns c.args.low c.args.high net.0) (sym least)
    (least_behind columns c.args.low c.args.high order i net above own c.requires.order c.loop-net-test.true is c.loop-net.invariant c.within.ensures))

-- Each net of the order gets the label of its place.
use Rattle.std.proofs.Common.{◌∙◌, ◌≤◌, length, get_or, set, refl, ap, arith}
use Rattle.std.proofs.lemmas.List.{length-set}
use Rattle.mv_base.specs.declared.number.NetId.{NetId}
use Rattle.mv_dag.proofs.Firsts.{order_short, place_below, labelled_more, labelled_all}
use Rattle.mv_dag.proofs.orders.first_labels.Goals as goal

pub overflow_cast-place : goal.overflow_cast-place
overflow_cast-place c =
    let short : length c.args.order.now ≤ length c.args.fanins.now = order_short c.args.fanins.now c.args.order.now c.requires.sorted in
    omega arith

pub index_mut-requires : goal.index_mut-requires
index_mut-requires c =
    let none : NetId = record { 0 = 0 } in
    let low = place_below c.args.fanins.now c.args.order.now c.loop-place.place (get_or c.args.order.now c.loop-place.place none) none c.requires.sorted c.loop-place-test.true refl in
    omega (arith, low, c.loop-place.invariant.long)

pub loop-place-preserved : goal.loop-place-preserved
loop-place-preserved c =
    let none : NetId = record { 0 = 0 } in
    let net : NetId = get_or c.args.order.now c.loop-place.place none in
    let labels = c.loop-place.labels.items in
    let low = place_below c.args.fanins.now c.args.order.now c.loop-place.place net none c.requires.sorted c.loop-place-test.true refl in
    record {
      long = length-set labels net.0 c.new-in-loop-place.result ∙ c.loop-place.invariant.long;
      each =
          labelled_more c.args.order.now labels (set labels net.0 c.new-in-loop-place.result) c.loop-place.place net none c.requires.sorted.once c.loop-place-test.true refl
          (omega (arith, low, c.loop-place.invariant.long))
          (ap (set labels net.0) c.new-in-loop-place.ensures)
          c.loop-place.invariant.each;
    }

pub returns : goal.returns
returns c =
    labelled_all c.args.fanins.now c.args.order.now c.loop-place.labels.items c.requires.sorted c.requires.few c.loop-place.invariant.long
    (λ k lt. c.loop-place.invariant.each k (omega arith))

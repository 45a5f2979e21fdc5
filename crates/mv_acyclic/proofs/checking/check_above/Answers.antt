-- The columns that are sorted are those of the model.
use Rattle.std.proofs.Common.{ap, arith, length}
use Rattle.std.proofs.lemmas.Result.{on_ok_weaker}
use Rattle.mv_graph.specs.Above.{IsAcyclic}
use Rattle.mv_acyclic.specs.Sound.{reads}
use Rattle.mv_acyclic.proofs.Soundness.{alone_told}
use Rattle.mv_acyclic.proofs.Turns.{columns_read, model_below, model_length, sorted_acyclic, unsorted_cyclic}
use Rattle.mv_acyclic.proofs.checking.check_above.Goals as goal

pub sorted-requires-clause-below : goal.sorted-requires-clause-below
sorted-requires-clause-below c =
    let m = c.args.model.now in
    model_below m c.as_slice.result.now c.requires.once (columns_read m c.args.numbers.now _ _ c.requires.numbers c.in_ok-columns.ensures c.as_slice.ensures)

pub sorted-requires-clause-few : goal.sorted-requires-clause-few
sorted-requires-clause-few c =
    let m = c.args.model.now in
    let l = model_length m c.as_slice.result.now c.requires.once (columns_read m c.args.numbers.now _ _ c.requires.numbers c.in_ok-columns.ensures c.as_slice.ensures) in
    let e = ap length c.requires.numbers in
    omega (arith, l, e, c.requires.few)

pub returns-in-Some-clause-acyclic : goal.returns-in-Some-clause-acyclic
returns-in-Some-clause-acyclic c =
    on_ok_weaker c.check_alone.result
    (λ _. sorted_acyclic c.args.model.now c.args.numbers.now _ c.as_slice.result.now _ _ c.requires.once c.requires.numbers
    c.in_ok-columns.ensures c.as_slice.ensures c.in-Some.is c.in_ok-order.ensures.acyclic)
    c.check_alone.ensures.alone

pub returns-in-Some-clause-fault : goal.returns-in-Some-clause-fault
returns-in-Some-clause-fault c =
    alone_told c.args.nets.now c.args.model.now c.check_alone.result
    (sorted_acyclic c.args.model.now c.args.numbers.now _ c.as_slice.result.now _ _ c.requires.once c.requires.numbers
    c.in_ok-columns.ensures c.as_slice.ensures c.in-Some.is c.in_ok-order.ensures.acyclic)
    c.check_alone.ensures.fault

pub returns-clause-alone : goal.returns-clause-alone
returns-clause-alone c =
    let m = c.args.model.now in
    on_ok_weaker c.check_turning.result
    (λ (a : IsAcyclic (reads m)).
    absurd (unsorted_cyclic m c.args.numbers.now _ c.as_slice.result.now _ c.requires.once c.requires.numbers
    c.in_ok-columns.ensures c.as_slice.ensures c.in-None.is c.in_ok-order.ensures.acyclic a))
    c.check_turning.ensures.acyclic

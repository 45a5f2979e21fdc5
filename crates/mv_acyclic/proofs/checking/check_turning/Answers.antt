-- The first of the nets, in their order, that is above itself.
use Rattle.std.proofs.Common.{ℕ, ◌<◌, List, Option, All, sym, ap, subst, length, arith}
use Rattle.std.specs.Prelude.{IfNone, IfSome}
use Rattle.mv_base.specs.declared.number.NetId.{NetId}
use Rattle.mv_design.specs.Nets.{drivers}
use Rattle.mv_cycles.specs.Cycles.{IsTurning, NoneTurns}
use Rattle.mv_cycles.proofs.Covered.{ListsEachReader, none_turns_acyclic}
use Rattle.mv_acyclic.proofs.Turns.{model_acyclic, model_below, model_length, order_is, order_below, order_covers, first_on_cycle, place_below}
use Rattle.mv_acyclic.proofs.checking.check_turning.Goals as goal

pub first_turning-requires-clause-below : goal.first_turning-requires-clause-below
first_turning-requires-clause-below c = model_below c.args.model.now c.args.columns.now c.requires.once c.requires.columns

pub first_turning-requires-clause-nets : goal.first_turning-requires-clause-nets
first_turning-requires-clause-nets c =
    let m = c.args.model.now in
    let P : List NetId → Type 0 = λ ns. All (λ (n : NetId). n.0 < length c.args.columns.now) ns in
    subst P (sym (order_is c.args.numbers.now (drivers m) c.args.nets.now _ _ c.requires.numbers c.in_ok-order.ensures c.as_slice.ensures))
    (order_below m c.args.nets.now (length c.args.columns.now) c.requires.once c.requires.nets
    (model_length m c.args.columns.now c.requires.once c.requires.columns))

pub first_turning-requires-clause-few : goal.first_turning-requires-clause-few
first_turning-requires-clause-few c =
    let l = model_length c.args.model.now c.args.columns.now c.requires.once c.requires.columns in
    let e = ap length c.requires.numbers in
    omega (arith, l, e, c.requires.few)

pub returns-in-None-clause-acyclic : goal.returns-in-None-clause-acyclic
returns-in-None-clause-acyclic c =
    let m = c.args.model.now in
    let P : List NetId → Type 0 = λ ns. ListsEachReader c.args.columns.now ns in
    let Q : Option ℕ → Type 0 = λ o. IfNone o (NoneTurns c.args.columns.now c.as_slice.result.now) in
    let covers = subst P (sym (order_is c.args.numbers.now (drivers m) c.args.nets.now _ _ c.requires.numbers c.in_ok-order.ensures c.as_slice.ensures))
    (order_covers m c.args.columns.now c.args.nets.now c.requires.once c.requires.columns c.requires.nets) in
    model_acyclic m c.args.columns.now c.requires.once c.requires.columns
    (none_turns_acyclic c.args.columns.now c.as_slice.result.now covers (subst Q c.in-None.is c.in_ok-first_turning.ensures.none))

pub offset_bounds-nets-place : goal.offset_bounds-nets-place
offset_bounds-nets-place c =
    let m = c.args.model.now in
    let P : Option ℕ → Type 0 = λ o. IfSome o (IsTurning c.args.columns.now c.as_slice.result.now) in
    let order = order_is c.args.numbers.now (drivers m) c.args.nets.now _ _ c.requires.numbers c.in_ok-order.ensures c.as_slice.ensures in
    let low = place_below (drivers m) c.args.nets.now c.args.columns.now c.as_slice.result.now c.in-Some.place order (subst P c.in-Some.is c.in_ok-first_turning.ensures.some) in
    omega (arith, low, c.requires.few_nets)

pub bounds-nets-place : goal.bounds-nets-place
bounds-nets-place c =
    let m = c.args.model.now in
    let P : Option ℕ → Type 0 = λ o. IfSome o (IsTurning c.args.columns.now c.as_slice.result.now) in
    place_below (drivers m) c.args.nets.now c.args.columns.now c.as_slice.result.now c.in-Some.place
    (order_is c.args.numbers.now (drivers m) c.args.nets.now _ _ c.requires.numbers c.in_ok-order.ensures c.as_slice.ensures)
    (subst P c.in-Some.is c.in_ok-first_turning.ensures.some)

pub returns-clause-fault : goal.returns-clause-fault
returns-clause-fault c =
    let m = c.args.model.now in
    let P : Option ℕ → Type 0 = λ o. IfSome o (IsTurning c.args.columns.now c.as_slice.result.now) in
    let order = order_is c.args.numbers.now (drivers m) c.args.nets.now _ _ c.requires.numbers c.in_ok-order.ensures c.as_slice.ensures in
    let turning = subst P c.in-Some.is c.in_ok-first_turning.ensures.some in
    let low = place_below (drivers m) c.args.nets.now c.args.columns.now c.as_slice.result.now c.in-Some.place order turning in
    rw c.in_ok-copy-in-Some.ensures
    (first_on_cycle m c.args.columns.now c.args.nets.now c.as_slice.result.now c.in-Some.place _ c.requires.once c.requires.columns c.requires.nets order turning low c.index-nets-place.is)

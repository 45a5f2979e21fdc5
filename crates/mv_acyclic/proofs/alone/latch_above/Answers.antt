-- What a reset table reads, by number.
use Rattle.std.proofs.Common.{◌∙◌, ◌<◌, List, All, ap, sym, subst, arith, length}
use Rattle.mv_base.specs.declared.number.NetId.{NetId}
use Rattle.mv_design.specs.Nets.{drivers}
use Rattle.mv_acyclic.specs.Numbers.{numbers_in}
use Rattle.mv_acyclic.proofs.ResetValues.{inputs_small, least_read}
use Rattle.mv_acyclic.proofs.Turns.{order_is}
use Rattle.mv_acyclic.proofs.alone.latch_above.Goals as goal

pub least_of-requires : goal.least_of-requires
least_of-requires c =
    let P : List NetId → Type 0 = λ ns. All (λ (n : NetId). n.0 < length c.args.above.now) ns in
    let e = c.requires.above.long in
    subst P
    (sym (order_is c.args.numbers.now (drivers c.args.model.now) c.as_slice.result.now _ _ c.requires.numbers c.in_ok-inputs.ensures c.as_slice-2.ensures
    ∙ ap (numbers_in (drivers c.args.model.now)) c.as_slice.ensures))
    (λ k d lt. let l = inputs_small c.args.model.now c.args.reset.now c.requires.once c.requires.reset k d lt in omega (arith, e, l))

pub returns : goal.returns
returns c =
    least_read c.args.model.now c.args.reset.now c.args.above.now c.as_slice-2.result.now c.least_of.result c.requires.once c.requires.reset c.requires.above
    (order_is c.args.numbers.now (drivers c.args.model.now) c.as_slice.result.now _ _ c.requires.numbers c.in_ok-inputs.ensures c.as_slice-2.ensures
    ∙ ap (numbers_in (drivers c.args.model.now)) c.as_slice.ensures)
    c.least_of.ensures

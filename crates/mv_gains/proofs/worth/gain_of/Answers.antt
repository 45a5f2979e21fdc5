use Rattle.std.proofs.Common.{◌∙◌, List, get_or, sym, subst, arith}
use Rattle.std.proofs.lemmas.List.{get_or_default}
use Rattle.std.proofs.lemmas.List.Elements.{All-get_or}
use Rattle.mv_base.specs.declared.number.NetId.{NetId}
use Rattle.mv_divide.specs.declared.part.Part.{Part}
use Rattle.mv_gains.specs.Tables.{IsReady, IsPartsSaving}
use Rattle.mv_gains.proofs.Readers.{number_low, numbers_few, gain_more}
use Rattle.mv_gains.proofs.worth.gain_of.Goals as goal

pub bounds-covers-net : goal.bounds-covers-net
bounds-covers-net c =
    let nets = c.args.nets.now in
    let i = c.loop-net.net-index in
    let none : NetId = record { 0 = 0 } in
    let n : NetId = get_or nets i none in
    number_low _ nets i n c.loop-net-test.true (get_or_default nets i none n c.loop-net-test.true) c.requires.places

pub saving_of-requires-clause-ready : goal.saving_of-requires-clause-ready
saving_of-requires-clause-ready c =
    let nets = c.args.nets.now in
    let i = c.loop-net.net-index in
    let none : NetId = record { 0 = 0 } in
    let n : NetId = get_or nets i none in
    let low = number_low _ nets i n c.loop-net-test.true (get_or_default nets i none n c.loop-net-test.true) c.requires.places in
    subst IsReady (sym (c.as_slice.ensures ∙ c.index-covers-net.is)) (All-get_or IsReady c.args.covers.now n.0 c.index-covers-net.result low c.requires.ready)

pub overflow_add-total : goal.overflow_add-total
overflow_add-total c =
    let few = numbers_few _ c.args.nets.now c.requires.places in
    omega (arith, few, c.requires.few, c.loop-net-test.true, c.loop-net.invariant.few, c.in_ok-total.ensures.few)

pub loop-net-preserved : goal.loop-net-preserved
loop-net-preserved c =
    let nets = c.args.nets.now in
    let i = c.loop-net.net-index in
    let none : NetId = record { 0 = 0 } in
    let n : NetId = get_or nets i none in
    let at = get_or_default nets i none n c.loop-net-test.true in
    let low = number_low _ nets i n c.loop-net-test.true at c.requires.places in
    let saved = subst (λ (ps : List Part). IsPartsSaving c.args.divisor.now ps c.in_ok-total.field-0) c.as_slice.ensures c.in_ok-total.ensures.saved in
    record {
      sum = gain_more c.args.covers.now c.args.divisor.now nets i n c.index-covers-net.result c.loop-net.total c.in_ok-total.field-0 c.loop-net-test.true at low c.index-covers-net.is c.loop-net.invariant.sum saved;
      few = omega (arith, c.loop-net.invariant.few, c.in_ok-total.ensures.few);
    }

-- Each name has its net.
use Rattle.std.proofs.Common.{◌∙◌, ap}
use Rattle.std.proofs.lemmas.List.{take_all}
use Rattle.mv_coding.specs.Nets.{bit_nets_from}
use Rattle.mv_coding.proofs.Changing.{bits_next}
use Rattle.mv_coding.proofs.change.bit_nets.Goals as goal

pub loop-place-preserved : goal.loop-place-preserved
loop-place-preserved c =
    bits_next c.args.codes.now c.args.table.now c.args.names.now c.loop-place.place c.index-names-place.result c.in_ok-bits.bits c.in_ok-bit_net.field-0 c.loop-place.nets c.push.new.self c.loop-place-test.true c.index-names-place.is
    c.in_ok-bits.ensures c.in_ok-bit_net.ensures c.loop-place.invariant c.in_ok-push.ensures.ok

pub returns : goal.returns
returns c = c.loop-place.invariant ∙ ap (bit_nets_from c.args.codes.now c.args.table.now 0) (take_all c.loop-place.place c.args.names.now c.loop-place-test.false)

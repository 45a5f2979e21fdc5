-- One code after the other.
use Rattle.mv_encode.proofs.Binary.{codes_more, codes_none}
use Rattle.mv_encode.proofs.codes.codes_of.Goals as goal

pub loop-value-init : goal.loop-value-init
loop-value-init c = codes_none c.args.bits c.in_ok-codes.codes c.in_ok-codes.ensures

pub loop-value-preserved : goal.loop-value-preserved
loop-value-preserved c =
    codes_more c.args.bits c.loop-value.value c.loop-value.codes c.push.new.self c.in_ok-code_of.field-0 c.in_ok-code_of.ensures c.in_ok-push.ensures.ok c.loop-value.invariant

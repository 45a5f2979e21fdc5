use Rattle.mv_walk.proofs.Listed.{some_more}
use Rattle.mv_walk.proofs.known.commands_of.Goals as goal

pub loop-instance-preserved : goal.loop-instance-preserved
loop-instance-preserved c =
    some_more c.args.models.now c.args.round.now c.as_slice-instances.result.now c.loop-instance.instance-index c.instance-item.result c.loop-instance.commands c.push.new.self c.in_ok-command_of.field-0 c.loop-instance.invariant
    c.loop-instance-test.true c.instance-item.is c.in_ok-command_of.ensures.instance c.in_ok-command_of.ensures.is c.in_ok-push.ensures.ok

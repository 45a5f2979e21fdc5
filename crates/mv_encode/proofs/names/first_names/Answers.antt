-- One name after the other.
use Rattle.mv_encode.proofs.Firsts.{first_more, first_none}
use Rattle.mv_encode.proofs.names.first_names.Goals as goal

pub loop-skip-init : goal.loop-skip-init
loop-skip-init c = first_none c.args.net.now.nets c.in_ok-names.names c.in_ok-names.ensures

pub loop-skip-preserved : goal.loop-skip-preserved
loop-skip-preserved c =
    let name = c.in_ok-fresh_name.ensures in
    first_more c.args.net.now.nets c.loop-skip.skip c.loop-skip.names c.push.new.self c.in_ok-fresh_name.field-0 name.fresh name.lawful name.short c.in_ok-push.ensures.ok c.loop-skip.invariant

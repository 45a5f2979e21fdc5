-- The net that goes was there with its name, and both are out.
use Rattle.mv_net.proofs.Changed.{names_dropped}
use Rattle.mv_net.proofs.MadeNames.{made_fewer}
use Rattle.mv_net.proofs.settle.drop_net.Goals as goal

pub returns-clause-names : goal.returns-clause-names
returns-clause-names c =
    names_dropped c.args.nets.now c.take_net-net.new.nets c.args.n.0 c.take_net-net.result c.args.names.now c.remove_net.new.names c.take_net-net.ensures.net c.take_net-net.ensures.nets c.remove_net.ensures c.requires.names

pub returns-clause-made : goal.returns-clause-made
returns-clause-made c =
    made_fewer c.args.nets.now c.take_net-net.new.nets c.args.n.0 c.args.made.now c.lowered.result c.take_net-net.result c.take_net-net.ensures.net c.take_net-net.ensures.nets c.lowered.ensures.most c.lowered.ensures.others c.requires.made

use Rattle.mv_dag.proofs.Fronts.{front-then}
use Rattle.mv_dag.proofs.Numbers.{added-fanins_front, added-readers_front}
use Rattle.mv_dag.proofs.growing.add_nets.Goals as goal

pub returns-in_err-add_net-clause-front_fanins : goal.returns-in_err-add_net-clause-front_fanins
returns-in_err-add_net-clause-front_fanins c =
    front-then c.args.fanins.now c.loop-index.fanins c.add_net.new.fanins (added-fanins_front c.loop-index.index _ _ _ _ _ _ c.loop-index.invariant) c.add_net.ensures.front_fanins

pub returns-in_err-add_net-clause-front_readers : goal.returns-in_err-add_net-clause-front_readers
returns-in_err-add_net-clause-front_readers c =
    front-then c.args.readers.now c.loop-index.readers c.add_net.new.readers (added-readers_front c.loop-index.index _ _ _ _ _ _ c.loop-index.invariant) c.add_net.ensures.front_readers

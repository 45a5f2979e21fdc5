use Rattle.mv_net.proofs.Named.{fresh_next, names_more}
use Rattle.mv_net.proofs.names.add_names.Goals as goal

pub add_net-requires : goal.add_net-requires
add_net-requires c =
    fresh_next c.args.nets.now c.loop-number.number c.index-nets-number.result c.loop-number.names c.requires.named c.loop-number-test.true c.index-nets-number.is c.loop-number.invariant

pub loop-number-preserved : goal.loop-number-preserved
loop-number-preserved c =
    names_more c.args.nets.now c.loop-number.number c.index-nets-number.result c.loop-number.names c.add_net.new.names c.requires.named c.loop-number-test.true c.index-nets-number.is c.loop-number.invariant c.in_default.ensures.ok

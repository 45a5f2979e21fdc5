-- Other tables and numbers of values leave each net its name.
use Rattle.mv_net.proofs.Changed.{names_set, names_counted}
use Rattle.mv_net.proofs.MadeNames.{made_set, made_counted}
use Rattle.mv_net.proofs.settle.write_change.Goals as goal

pub drop_nets-requires-clause-names : goal.drop_nets-requires-clause-names
drop_nets-requires-clause-names c =
    names_counted c.args.values c.set_tables.new.nets c.set_counts.new.nets c.args.names.now c.set_counts.ensures.each
    (names_set c.args.set c.args.nets.now c.set_tables.new.nets c.args.names.now c.set_tables.ensures.each c.requires.names)

pub drop_nets-requires-clause-made : goal.drop_nets-requires-clause-made
drop_nets-requires-clause-made c =
    made_counted c.args.values c.set_tables.new.nets c.set_counts.new.nets c.args.made.now c.set_counts.ensures.each
    (made_set c.args.set c.args.nets.now c.set_tables.new.nets c.args.made.now c.set_tables.ensures.each c.requires.made)

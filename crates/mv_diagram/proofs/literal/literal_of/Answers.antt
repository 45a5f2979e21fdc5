use Rattle.mv_diagram.proofs.Cubing.{full_held, full_behind, alone_set, alone_added, alone_lacking}
use Rattle.mv_diagram.proofs.literal.literal_of.Goals as goal

pub literal_in-requires-clause-held : goal.literal_in-requires-clause-held
literal_in-requires-clause-held c = full_held c.args.table.now.pool.places

pub literal_in-requires-clause-behind : goal.literal_in-requires-clause-behind
literal_in-requires-clause-behind c = full_behind c.args.table.now.counts.items c.args.table.now.pool.places c.args.var c.requires.variable

pub returns-clause-set : goal.returns-clause-set
returns-clause-set c = alone_set c.args.table.now c.literal_in.new.table c.args.var c.args.set c.literal_in.result c.literal_in.ensures.set

pub returns-clause-added : goal.returns-clause-added
returns-clause-added c = alone_added c.args.table.now c.literal_in.new.table c.args.var c.args.set c.literal_in.ensures.adds c.literal_in.ensures.added

pub returns-clause-lacking : goal.returns-clause-lacking
returns-clause-lacking c = alone_lacking c.args.table.now c.literal_in.new.table c.args.var c.args.set c.literal_in.ensures.adds c.literal_in.result c.literal_in.ensures.lacking

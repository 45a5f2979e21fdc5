use Rattle.std.proofs.Common.{◌∙◌, arith}
use Rattle.mv_pool.proofs.Placing.{written, pushed}
use Rattle.mv_pool.proofs.pool.fill.Goals as goal

pub returns-then-at-len-clause-items : goal.returns-then-at-len-clause-items
returns-then-at-len-clause-items g c = written c.args.places.now.items c.args.item c.args.at c.requires.least (omega arith)

pub returns-else-at-len-clause-items : goal.returns-else-at-len-clause-items
returns-else-at-len-clause-items g c = c.push_reserved.ensures.items ∙ pushed c.args.places.now.items c.args.item c.args.at c.requires.least (omega arith)

use Rattle.mv_extract.proofs.Keeping.{changed_below}
use Rattle.mv_extract.proofs.kind.changed_nets.Goals as goal

pub returns-clause-below : goal.returns-clause-below
returns-clause-below c = changed_below c.args.net.now.nets c.args.d c.readers.result.now c.in_ok-list.list.items c.push.new.self.items c.requires c.readers.ensures c.in_ok-list.ensures.items c.in_ok-push.ensures.items

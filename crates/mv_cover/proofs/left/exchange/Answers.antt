use Rattle.mv_cover.proofs.Marking.{exchanged}
use Rattle.mv_cover.proofs.left.exchange.Goals as goal

pub returns-clause-marked : goal.returns-clause-marked
returns-clause-marked c =
    exchanged c.args.lines.now.items c.swap.new.self.items c.args.marks.now.items c.swap-2.new.self.items c.args.first c.args.second c.requires.first c.requires.second c.requires.marked c.swap.ensures.items c.swap-2.ensures.items

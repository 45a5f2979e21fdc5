use Rattle.mv_diagram.proofs.Showing.{not_added, not_lacks, not_shown}
use Rattle.mv_diagram.proofs.diagrams.Diagrams.not.Goals as goal

pub returns-clause-set : goal.returns-clause-set
returns-clause-set c = not_shown c.args.self.now c.combine.new.self c.args.a c.combine.result c.combine.ensures.set

pub returns-clause-lacks : goal.returns-clause-lacks
returns-clause-lacks c = not_lacks c.args.self.now c.combine.new.self c.args.a c.combine.result c.combine.ensures.lacks

pub returns-clause-added : goal.returns-clause-added
returns-clause-added c = not_added c.args.self.now c.combine.new.self c.args.a c.combine.ensures.values c.combine.ensures.added

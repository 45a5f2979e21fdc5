use Rattle.std.proofs.Common.{true}
use Rattle.mv_diagram.proofs.Showing.{spread_once, answers_once}
use Rattle.mv_diagram.proofs.diagrams.Diagrams.exists.Goals as goal

pub returns-clause-set : goal.returns-clause-set
returns-clause-set c = spread_once c.args.self.now c.spread.new.self c.args.vars.now true c.args.a c.spread.result c.spread.ensures.set

pub returns-clause-added : goal.returns-clause-added
returns-clause-added c = answers_once c.args.self.now c.spread.new.self c.args.vars.now true c.args.a c.spread.ensures.values c.spread.ensures.added

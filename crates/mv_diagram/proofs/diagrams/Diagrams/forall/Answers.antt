use Rattle.std.proofs.Common.{false}
use Rattle.mv_diagram.proofs.Showing.{forall_of, spread_once, answers_once}
use Rattle.mv_diagram.proofs.diagrams.Diagrams.forall.Goals as goal

pub returns-clause-set : goal.returns-clause-set
returns-clause-set c = forall_of _ _ _ _ c.spread.result (spread_once c.args.self.now c.spread.new.self c.args.vars.now false c.args.a c.spread.result c.spread.ensures.set)

pub returns-clause-added : goal.returns-clause-added
returns-clause-added c = answers_once c.args.self.now c.spread.new.self c.args.vars.now false c.args.a c.spread.ensures.values c.spread.ensures.added

use Rattle.mv_diagram.proofs.Showing.{picked_none}
use Rattle.mv_diagram.proofs.diagrams.Diagrams.pick.Goals as goal

pub returns-clause-none : goal.returns-clause-none
returns-clause-none c = picked_none c.args.self.now.counts c.args.self.now.nodes c.args.a.0 c.pick_in.result c.pick_in.ensures.none

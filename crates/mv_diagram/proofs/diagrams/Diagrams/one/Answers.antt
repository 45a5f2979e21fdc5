use Rattle.mv_diagram.proofs.Showing.{one_full}
use Rattle.mv_diagram.proofs.diagrams.Diagrams.one.Goals as goal

pub returns-clause-set : goal.returns-clause-set
returns-clause-set c p = one_full c.args.self.now.counts c.args.self.now.nodes p

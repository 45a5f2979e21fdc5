use Rattle.mv_diagram.proofs.Showing.{zero_empty}
use Rattle.mv_diagram.proofs.diagrams.Diagrams.zero.Goals as goal

pub returns-clause-set : goal.returns-clause-set
returns-clause-set c p = zero_empty c.args.self.now.counts c.args.self.now.nodes p

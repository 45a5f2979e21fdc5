use Rattle.mv_parse_laws.proofs.Proper.{proper}
use Rattle.mv_parse_laws.proofs.laws.designs_are_proper.Goals as goal

pub returns : goal.returns
returns c = proper

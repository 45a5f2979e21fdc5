use Rattle.mv_blif_laws.proofs.Proper.{proper}
use Rattle.mv_blif_laws.proofs.laws.blif_designs_are_proper.Goals as goal

pub returns : goal.returns
returns c = proper

use Rattle.mv_blif_laws.proofs.Proper.{flat}
use Rattle.mv_blif_laws.proofs.laws.blif_designs_are_flat.Goals as goal

pub returns : goal.returns
returns c = flat

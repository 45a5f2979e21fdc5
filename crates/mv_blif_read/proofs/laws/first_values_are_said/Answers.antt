use Rattle.mv_blif_read.proofs.FirstValues.{first_values}
use Rattle.mv_blif_read.proofs.laws.first_values_are_said.Goals as goal

pub returns : goal.returns
returns c = first_values

use Rattle.mv_blif_read.proofs.Said.{latches_said}
use Rattle.mv_blif_read.proofs.laws.latches_are_said.Goals as goal

pub returns : goal.returns
returns c = latches_said

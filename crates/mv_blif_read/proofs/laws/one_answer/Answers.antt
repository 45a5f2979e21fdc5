use Rattle.mv_blif_read.proofs.Refused.{refused-excludes}
use Rattle.mv_blif_read.proofs.laws.one_answer.Goals as goal

pub returns : goal.returns
returns c = refused-excludes

use Rattle.mv_saving.proofs.Counting.{literals_are}
use Rattle.mv_saving.proofs.law.saving_law.Goals as goal

pub returns : goal.returns
returns c = literals_are

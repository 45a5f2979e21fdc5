use Rattle.std.proofs.Common.{arith}
use Rattle.std.proofs.lemmas.Grind.{common_steps}
use Rattle.mv_cover.proofs.Counts.{literals-sum}
use Rattle.mv_cover.proofs.cover.Cover.literals.Goals as goal

pub loop-line-preserved : goal.loop-line-preserved
loop-line-preserved c = (grind (arith, common_steps, literals-sum), omega arith)

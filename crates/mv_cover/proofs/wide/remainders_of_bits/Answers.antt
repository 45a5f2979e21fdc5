use Rattle.std.proofs.Common.{arith}
use Rattle.mv_base.specs.Set.{full, meet, join}
use Rattle.mv_cover.specs.Marks.{folded, remainders}
use Rattle.mv_cover.proofs.WideMarks.{remainders-few}
use Rattle.mv_cover.proofs.wide.remainders_of_bits.Goals as goal

pub returns : goal.returns
unfolding folded remainders full meet join
returns c = remainders-few c.args.bits (omega (arith, c.ranges.bits.fits))

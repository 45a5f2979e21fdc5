-- Empty rows have nothing that is wrong.
use Rattle.std.proofs.Common.{arith}
use Rattle.mv_gain.proofs.Rows.{nothing_right, nothing_more}
use Rattle.mv_gain.proofs.kept.KeptComposites.none.Goals as goal

pub loop-number-preserved : goal.loop-number-preserved
loop-number-preserved c = nothing_more c.loop-number.nets.items _ c.none.result _ c.loop-number.invariant c.none.ensures.empty c.none.ensures.summed c.in_ok-push.ensures.items

pub returns : goal.returns
returns c = λ nets long. nothing_right _ _ c.loop-number.invariant nets (omega (arith, long, c.loop-number-test.false))

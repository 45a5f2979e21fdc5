-- The cubes of one quotient more are left.
use Rattle.mv_divide.proofs.Leaving.{left_more}
use Rattle.mv_divide.proofs.divided.left_lines.Goals as goal

pub loop-quotient-preserved : goal.loop-quotient-preserved
loop-quotient-preserved c =
    left_more c.args.quotients.now c.loop-quotient.quotient-index c.quotient-item.result c.loop-quotient.left.keys c.put_left.new.left.keys c.loop-quotient-test.true c.quotient-item.is c.in_ok-put_left.ensures c.loop-quotient.invariant

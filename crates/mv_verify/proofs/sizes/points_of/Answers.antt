use Rattle.std.proofs.Common.{◌∙◌, ◌-◌, ◌^◌, arith}
use Rattle.mv_verify.proofs.Counting.{points_next}
use Rattle.mv_verify.proofs.sizes.points_of.Goals as goal

pub loop-n-preserved : goal.loop-n-preserved
loop-n-preserved c = record {
  points = points_next c.args.net.now.nets c.loop-n.n c.loop-n.points c.into.result c.saturating_mul-points.result (2 ^ 128 - 1) _ (omega (arith, c.loop-n-test.true, c.next_number-n-end.ensures)) (c.into.ensures ∙ c.ways_at.ensures) c.saturating_mul-points.ensures c.loop-n.invariant.points;
  low = omega (arith, c.saturating_mul-points.ensures);
}

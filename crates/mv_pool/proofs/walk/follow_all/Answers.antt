use Rattle.std.proofs.Common.{arith}
use Rattle.mv_pool.proofs.walk.follow_all.Goals as goal

pub loop-at-preserved : goal.loop-at-preserved
loop-at-preserved g c = record {
  walking = c.follow.ensures.walking;
  rooted = c.follow.ensures.rooted;
  inside = omega (arith, c.follow.ensures.longer);
  marks = omega (arith, c.follow.ensures.marks);
  queue = omega (arith, c.follow.ensures.queue);
}

use Rattle.std.proofs.Common.{arith}
use Rattle.mv_pool.proofs.Walking.{walking_root, rooted_next, same_read}
use Rattle.mv_pool.proofs.walk.reach_roots.Goals as goal

pub loop-root-preserved : goal.loop-root-preserved
loop-root-preserved g c = record {
  walking = walking_root g.T.Linked.link_of c.args.places.now c.args.roots.now c.loop-root.marks.items c.loop-root.queue.items _ _ _ c.loop-root.root-index c.loop-root.invariant.walking c.reach.ensures.reached c.requires.held c.loop-root-test.true (same_read c.args.roots.now c.loop-root.root-index _ _ c.loop-root-test.true);
  rooted = rooted_next c.args.roots.now c.loop-root.marks.items c.loop-root.queue.items _ _ _ c.loop-root.root-index c.loop-root.invariant.rooted c.reach.ensures.reached c.loop-root-test.true (same_read c.args.roots.now c.loop-root.root-index _ _ c.loop-root-test.true);
  marks = omega (arith, c.reach.ensures.marks);
  queue = omega (arith, c.reach.ensures.queue);
}

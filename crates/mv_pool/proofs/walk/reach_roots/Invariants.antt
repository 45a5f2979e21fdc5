use Rattle.std.proofs.Common.{◌≤◌, vec_capacity}
use Rattle.mv_pool.specs.Walks.{IsWalking, AreRooted}
use Rattle.mv_pool.proofs.walk.reach_roots.Given as goal

abbrev pub invariant-loop-root : goal.invariant-loop-root
invariant-loop-root g l = record {
  walking : IsWalking g.T.Linked.link_of l.places l.roots l.marks.items l.queue.items 0;
  rooted : AreRooted l.marks.items l.roots l.root-index;
  marks : vec_capacity l.initial.marks ≤ vec_capacity l.marks;
  queue : vec_capacity l.initial.queue ≤ vec_capacity l.queue;
}

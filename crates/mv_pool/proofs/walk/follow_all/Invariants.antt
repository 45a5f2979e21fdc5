use Rattle.std.proofs.Common.{◌≤◌, ◌-◌, length, vec_capacity}
use Rattle.mv_pool.specs.Walks.{IsWalking, AreRooted}
use Rattle.mv_pool.proofs.walk.follow_all.Given as goal

abbrev pub invariant-loop-at : goal.invariant-loop-at
invariant-loop-at g l = record {
  walking : IsWalking g.T.Linked.link_of l.places l.roots l.marks.items l.queue.items l.at;
  rooted : AreRooted l.marks.items l.roots (length l.roots);
  inside : l.at ≤ length l.queue.items;
  marks : vec_capacity l.initial.marks ≤ vec_capacity l.marks;
  queue : vec_capacity l.initial.queue ≤ vec_capacity l.queue;
}

abbrev pub decreases-loop-at : goal.decreases-loop-at
decreases-loop-at g l = length l.places - l.at

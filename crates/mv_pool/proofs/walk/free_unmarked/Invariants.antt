use Rattle.std.proofs.Common.{◌≤◌, vec_capacity}
use Rattle.mv_pool.specs.Walks.{AreFreed}
use Rattle.mv_pool.proofs.walk.free_unmarked.Given as goal

abbrev pub invariant-loop-place : goal.invariant-loop-place
invariant-loop-place g l = record {
  freed : AreFreed l.marks l.initial.places.items l.places.items l.place;
  room : vec_capacity l.initial.places ≤ vec_capacity l.places;
}

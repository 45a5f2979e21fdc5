use Rattle.std.proofs.Common.{◌≡◌, ◌≤◌, length, vec_capacity}
use Rattle.mv_diagram.specs.Roots.{AreGathered, AreMarked}
use Rattle.mv_diagram.proofs.Gathering.{AreSeen}
use Rattle.mv_diagram.proofs.roots.gather.Given as goal

abbrev pub invariant-loop-root : goal.invariant-loop-root
invariant-loop-root l = record {
  gathered : AreGathered l.roots l.ids.items l.root-index;
  marked : AreMarked l.marks.items l.ids.items;
  size : length l.marks.items ≡ l.places;
  seen : AreSeen l.roots l.marks.items l.root-index;
  marks : vec_capacity l.fn.marks ≤ vec_capacity l.marks;
  ids : vec_capacity l.fn.ids ≤ vec_capacity l.ids;
}

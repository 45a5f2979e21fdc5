use Rattle.std.proofs.Common.{◌≡◌, ◌++◌, map, take}
use Rattle.mv_tree.specs.Unfolded.{placed_latch}
use Rattle.mv_unfold.specs.Laid.{places_of, home_in}
use Rattle.mv_unfold.specs.Placed.{place_at}
use Rattle.mv_unfold.specs.Recent.{AreHomes}
use Rattle.mv_unfold.proofs.tables.add_latches.Given as goal

abbrev pub invariant-loop-latch : goal.invariant-loop-latch
invariant-loop-latch l = record {
  latches : l.latches ≡ l.fn.latches ++ map (placed_latch (place_at (places_of l.layout) l.number)) (take l.latch-index l.latch-items);
  right : AreHomes (home_in l.layout) l.recent.slots;
}

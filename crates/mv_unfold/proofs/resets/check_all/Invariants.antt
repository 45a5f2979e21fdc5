use Rattle.std.proofs.Common.{◌≡◌, drop}
use Rattle.std.specs.List.{flat_map}
use Rattle.mv_unfold.specs.Laid.{places_of}
use Rattle.mv_unfold.specs.Resets.{AreLooked}
use Rattle.mv_unfold.specs.Whole.{place_faults}
use Rattle.mv_unfold.proofs.resets.check_all.Given as goal

abbrev pub invariant-loop-number : goal.invariant-loop-number
invariant-loop-number l = record {
  looked : AreLooked l.layout.design.now l.looked.items;
  faults : flat_map place_faults (drop l.number (places_of l.layout)) ≡ flat_map place_faults (places_of l.layout);
}

use Rattle.std.proofs.Common.{◌≡◌, take}
use Rattle.mv_tree.specs.Unfolded.{latches_in}
use Rattle.mv_unfold.specs.Laid.{places_of, home_in}
use Rattle.mv_unfold.specs.Recent.{AreHomes}
use Rattle.mv_unfold.proofs.tables.latches.Given as goal

abbrev pub invariant-loop-number : goal.invariant-loop-number
invariant-loop-number l = record {
  latches : l.latches ≡ latches_in (take l.number (places_of l.layout));
  right : AreHomes (home_in l.layout) l.recent.slots;
}

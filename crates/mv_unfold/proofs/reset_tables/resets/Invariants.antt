use Rattle.std.proofs.Common.{◌≡◌, ◌++◌, drop}
use Rattle.mv_tree.specs.Unfolded.{resets_in}
use Rattle.mv_unfold.specs.Laid.{places_of, home_in}
use Rattle.mv_unfold.specs.Recent.{AreHomes}
use Rattle.mv_unfold.proofs.reset_tables.resets.Given as goal

abbrev pub invariant-loop-number : goal.invariant-loop-number
invariant-loop-number l = record {
  resets : l.resets ++ resets_in l.at (drop l.number (places_of l.layout)) ≡ resets_in 0 (places_of l.layout);
  right : AreHomes (home_in l.layout) l.recent.slots;
}

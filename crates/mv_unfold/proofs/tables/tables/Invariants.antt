use Rattle.std.proofs.Common.{◌≡◌, ◌++◌, length, drop}
use Rattle.mv_tree.specs.Unfolded.{tables_in}
use Rattle.mv_unfold.specs.Laid.{places_of, home_in}
use Rattle.mv_unfold.specs.Recent.{AreHomes}
use Rattle.mv_unfold.proofs.tables.tables.Given as goal

abbrev pub invariant-loop-number : goal.invariant-loop-number
invariant-loop-number l = record {
  tables : l.tables ++ tables_in (length l.tables) (drop l.number (places_of l.layout)) ≡ tables_in 0 (places_of l.layout);
  right : AreHomes (home_in l.layout) l.recent.slots;
}

use Rattle.std.proofs.Common.{◌≡◌, ◌++◌, length, drop}
use Rattle.mv_tree.specs.Unfolded.{numbered}
use Rattle.mv_unfold.specs.Laid.{places_of, home_in}
use Rattle.mv_unfold.specs.Placed.{place_at}
use Rattle.mv_unfold.specs.Recent.{AreHomes}
use Rattle.mv_unfold.proofs.tables.add_tables.Given as goal

abbrev pub invariant-loop-table : goal.invariant-loop-table
invariant-loop-table l = record {
  tables :
      l.tables ++ numbered (place_at (places_of l.layout) l.number).home (length l.tables) (drop l.table-index l.table-items)
      ≡ l.fn.tables ++ numbered (place_at (places_of l.layout) l.number).home (length l.fn.tables) l.table-items;
  right : AreHomes (home_in l.layout) l.recent.slots;
}

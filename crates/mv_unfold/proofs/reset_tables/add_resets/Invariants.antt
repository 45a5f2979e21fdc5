use Rattle.std.proofs.Common.{◌≡◌, ◌++◌, map, take, length}
use Rattle.mv_design.specs.ByLine.{before_line}
use Rattle.mv_tree.specs.Unfolded.{placed_reset}
use Rattle.mv_unfold.specs.Laid.{places_of, home_in}
use Rattle.mv_unfold.specs.Placed.{place_at}
use Rattle.mv_unfold.specs.Recent.{AreHomes}
use Rattle.mv_unfold.proofs.reset_tables.add_resets.Given as goal

abbrev pub invariant-loop-reset : goal.invariant-loop-reset
invariant-loop-reset l = record {
  before : l.before ≡ length (before_line (λ t. t.line) l.last (place_at (places_of l.layout) l.number).model.tables);
  resets : l.resets ≡ l.fn.resets ++ map (placed_reset l.at (place_at (places_of l.layout) l.number)) (take l.reset-index l.reset-items);
  right : AreHomes (home_in l.layout) l.recent.slots;
}

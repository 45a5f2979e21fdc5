use Rattle.std.proofs.Common.{◌≡◌, ◌&&◌, ◌||◌, not, ℕ, take, length}
use Rattle.mv_graph.specs.Nets.{has_id}
use Rattle.mv_solve.specs.Asked.{asked_of}
use Rattle.mv_solve.specs.Known.{is_only}
use Rattle.mv_solve.specs.Marks.{is_marked}
use Rattle.mv_solve.proofs.marks.mark_open.Given as goal

abbrev pub invariant-loop-n : goal.invariant-loop-n
invariant-loop-n l = record {
  long : length l.marks ≡ length l.initial.marks;
  each : (m : ℕ) → is_marked l.marks m ≡ (is_marked l.initial.marks m || (has_id (take l.n-index l.nets) m && not (is_only (asked_of l.asked m))));
}

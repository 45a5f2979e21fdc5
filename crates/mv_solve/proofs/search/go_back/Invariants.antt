use Rattle.std.proofs.Common.{◌≡◌, ◌≤◌}
use Rattle.std.specs.Prelude.{slice_index}
use Rattle.mv_solve.specs.Marks.{is_marked, MarkedWithin}
use Rattle.mv_solve.specs.Way.{AreOpen, NoneAlike, AreSettled}
use Rattle.mv_solve.proofs.search.go_back.Given as goal

abbrev pub invariant-loop-place : goal.invariant-loop-place
invariant-loop-place l = record {
  is : l.start ≡ slice_index l.starts l.from;
  above : l.start ≤ l.place;
  low : l.place ≤ l.from;
  same : l.values ≡ l.initial.values;
  settled : AreSettled l.net.nets l.order l.starts l.asked l.bounds (slice_index l.values) l.from;
  within : MarkedWithin l.marks l.order l.start l.place;
  free : AreOpen l.asked l.marks;
  clash : NoneAlike l.net.nets l.order l.asked (is_marked l.marks) (slice_index l.values);
}

abbrev pub decreases-loop-place : goal.decreases-loop-place
decreases-loop-place l = l.place

use Rattle.std.proofs.Common.{◌≡◌, ◌-◌, ◌≤◌, ◌<◌, ℕ, length}
use Rattle.std.specs.Prelude.{slice_index}
use Rattle.mv_solve.specs.Put.{ArePut}
use Rattle.mv_solve.proofs.way.put_part.Given as goal

abbrev pub invariant-loop-end : goal.invariant-loop-end
invariant-loop-end l = record {
  above : l.start ≤ l.end;
  way : length l.way ≡ length l.initial.way;
  starts : length l.starts ≡ length l.initial.starts;
  places : length l.places ≡ length l.initial.places;
  put : ArePut l.net.nets l.known l.way l.starts l.places l.end;
  part : (q : ℕ) → l.start ≤ q → q < l.end → slice_index l.starts q ≡ l.start;
}

abbrev pub decreases-loop-end : goal.decreases-loop-end
decreases-loop-end l = length l.way - l.end

use Rattle.std.proofs.Common.{◌≡◌, length}
use Rattle.mv_solve.specs.Put.{ArePut}
use Rattle.mv_solve.proofs.way.put_parts.Given as goal

abbrev pub invariant-loop-n : goal.invariant-loop-n
invariant-loop-n l = record {
  way : length l.way ≡ length l.initial.way;
  starts : length l.starts ≡ length l.initial.starts;
  places : length l.places ≡ length l.initial.places;
  put : ArePut l.net.nets l.known l.way l.starts l.places l.end;
}

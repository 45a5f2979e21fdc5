use Rattle.std.specs.Prelude.{slice_index}
use Rattle.mv_solve.specs.Way.{AreSettled}
use Rattle.mv_solve.proofs.Advancing.{to_try}
use Rattle.mv_solve.proofs.search.search.Given as goal

abbrev pub invariant-loop-place : goal.invariant-loop-place
invariant-loop-place l = AreSettled l.net.nets l.order l.starts l.asked l.bounds (slice_index l.values) l.place

abbrev pub decreases-loop-place : goal.decreases-loop-place
decreases-loop-place l = to_try l.net.nets l.order l.values l.place

use Rattle.mv_blif_write.proofs.PlaneBytes.{IsNear}
use Rattle.mv_blif_write.proofs.planes.plane_byte.Given as goal

abbrev pub invariant-loop-lit : goal.invariant-loop-lit
invariant-loop-lit l = IsNear l.lits l.net.0 l.lit-index

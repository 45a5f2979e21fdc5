use Rattle.std.proofs.Common.{◌≡◌, ◌≤◌, length, drop}
use Rattle.mv_kernels.specs.Order.{cube_cmp}
use Rattle.mv_kernels.proofs.order.compare.Given as goal

abbrev pub invariant-loop-i : goal.invariant-loop-i
invariant-loop-i l = (l.i ≤ length l.b) × (cube_cmp (drop l.i l.a) (drop l.i l.b) ≡ cube_cmp l.a l.b)

use Rattle.std.proofs.Common.{◌≡◌, ◌≤◌, length, drop}
use Rattle.mv_kernels.specs.Order.{cubes_cmp}
use Rattle.mv_kernels.proofs.order.compare_lists.Given as goal

abbrev pub invariant-loop-i : goal.invariant-loop-i
invariant-loop-i l = (l.i ≤ length l.b) × (cubes_cmp (drop l.i l.a) (drop l.i l.b) ≡ cubes_cmp l.a l.b)

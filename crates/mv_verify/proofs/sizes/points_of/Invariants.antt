use Rattle.std.proofs.Common.{◌≡◌, ◌*◌, ◌-◌, ◌≤◌, ◌^◌, min, drop}
use Rattle.mv_verify.specs.Sizes.{points_in}
use Rattle.mv_verify.proofs.sizes.points_of.Given as goal

abbrev pub invariant-loop-n : goal.invariant-loop-n
invariant-loop-n l = record {
  points : min (l.points * points_in (drop l.n l.net.nets)) (2 ^ 128 - 1) ≡ min (points_in l.net.nets) (2 ^ 128 - 1);
  low : l.points ≤ 2 ^ 128 - 1;
}

use Rattle.std.proofs.Common.{◌≡◌, ◌+◌, ◌*◌, ◌≤◌, ◌^◌, drop}
use Rattle.mv_verify.specs.Sizes.{levels_in}
use Rattle.mv_verify.proofs.sizes.levels_in.Given as goal

abbrev pub invariant-loop-n : goal.invariant-loop-n
invariant-loop-n l = record {
  levels : l.levels + levels_in (drop l.n l.net.nets) ≡ levels_in l.net.nets;
  few : l.levels ≤ 2 ^ 16 * l.n;
}

use Rattle.std.proofs.Common.{◌≡◌, ◌+◌, ◌*◌, ◌≤◌, ◌^◌, drop}
use Rattle.mv_verify.specs.Sizes.{own_levels_in}
use Rattle.mv_verify.proofs.sizes.own_levels_in.Given as goal

abbrev pub invariant-loop-n : goal.invariant-loop-n
invariant-loop-n l = record {
  levels : l.levels + own_levels_in (drop l.n l.net.nets) ≡ own_levels_in l.net.nets;
  few : l.levels ≤ 2 ^ 16 * l.n;
}

use Rattle.std.proofs.Common.{◌*◌, ◌≤◌, ◌^◌, take}
use Rattle.mv_gains.specs.Known.{numbers}
use Rattle.mv_gains.specs.Tables.{IsGainAt}
use Rattle.mv_gains.proofs.worth.gain_of.Given as goal

abbrev pub invariant-loop-net : goal.invariant-loop-net
invariant-loop-net l = record {
  sum : IsGainAt l.covers (take l.net-index (numbers l.nets)) l.divisor l.total;
  few : l.total ≤ l.net-index * 2 ^ 96;
}

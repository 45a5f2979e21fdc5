use Rattle.std.proofs.Common.{◌*◌, ◌≤◌, ◌^◌, take}
use Rattle.mv_gains.specs.Tables.{IsGainAt}
use Rattle.mv_gains.proofs.tables.Tables.gain_at.Given as goal

abbrev pub invariant-loop-place : goal.invariant-loop-place
invariant-loop-place l = record {
  sum : IsGainAt l.self (take l.place-index l.places) l.divisor l.total;
  few : l.total ≤ l.place-index * 2 ^ 96;
}

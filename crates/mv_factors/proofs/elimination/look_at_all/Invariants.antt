use Rattle.std.proofs.Common.{◌≡◌, ℕ}
use Rattle.mv_factors.specs.Seen.{AreSeenBefore, HasRows, KeepsWork}
use Rattle.mv_factors.proofs.elimination.look_at_all.Given as goal

abbrev pub invariant-loop-place : goal.invariant-loop-place
invariant-loop-place l = record {
  same : l.factors ≡ l.fn.factors;
  rows : (places vars : ℕ) → HasRows l.fn.work.rows.items places vars → HasRows l.work.rows.items places vars;
  seen : AreSeenBefore l.fn.factors l.from l.place l.work.rows.items;
  work : KeepsWork l.fn.work l.work;
}

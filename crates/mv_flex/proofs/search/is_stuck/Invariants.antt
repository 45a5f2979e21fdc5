use Rattle.std.proofs.Common.{◌≡◌, ◌<◌, ℕ, false}
use Rattle.mv_flex.specs.Plans.{window_agrees, point_at}
use Rattle.mv_flex.proofs.search.is_stuck.Given as goal

abbrev pub invariant-loop-hidden : goal.invariant-loop-hidden
invariant-loop-hidden l = record {
  values : l.values.items ≡ point_at l.plan l.start l.hidden;
  none : (h : ℕ) → h < l.hidden → window_agrees l.net.nets l.plan (point_at l.plan l.start h) ≡ false;
}

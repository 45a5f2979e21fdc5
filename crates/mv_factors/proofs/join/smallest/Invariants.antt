use Rattle.std.proofs.Common.{◌≤◌, ◌<◌, IfNone, IfSome}
use Rattle.mv_factors.specs.Seen.{IsNowhere}
use Rattle.mv_factors.proofs.join.smallest.Given as goal

abbrev pub invariant-loop-place : goal.invariant-loop-place
invariant-loop-place l = record {
  some : IfSome l.least (λ place. (l.from ≤ place) × (place < l.count));
  none : IfNone l.least (IsNowhere l.work.rows.items l.from l.place l.var);
}

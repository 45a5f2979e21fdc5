use Rattle.std.proofs.Common.{◌≡◌}
use Rattle.mv_flex.specs.Plans.{point_at, Adds, IsPairBelow}
use Rattle.mv_flex.proofs.search.mark_stuck.Given as goal

abbrev pub invariant-loop-hidden : goal.invariant-loop-hidden
invariant-loop-hidden l = record {
  values : l.values.items ≡ point_at l.plan l.start l.hidden;
  adds : Adds (IsPairBelow l.net.nets l.plan l.start l.hidden) l.fn.marks.items l.marks.items;
}

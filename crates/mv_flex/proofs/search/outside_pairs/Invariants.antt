use Rattle.std.proofs.Common.{◌≡◌}
use Rattle.mv_flex.specs.Spaces.{digits}
use Rattle.mv_flex.specs.Plans.{MarksBelow}
use Rattle.mv_flex.proofs.search.outside_pairs.Given as goal

abbrev pub invariant-loop-shown : goal.invariant-loop-shown
invariant-loop-shown l = record {
  marks : MarksBelow l.net.nets l.plan l.shown l.marks.items;
  start : l.start.items ≡ digits l.plan.shown.counts l.shown;
}

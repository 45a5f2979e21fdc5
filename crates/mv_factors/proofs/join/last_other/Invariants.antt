use Rattle.std.proofs.Common.{IfNone, IfSome}
use Rattle.mv_factors.specs.Seen.{IsAlone, IsLast}
use Rattle.mv_factors.proofs.join.last_other.Given as goal

abbrev pub invariant-loop-other : goal.invariant-loop-other
invariant-loop-other l = record {
  some : IfSome l.last (IsLast l.work.rows.items l.from l.other l.var l.place);
  none : IfNone l.last (IsAlone l.work.rows.items l.from l.other l.var l.place);
}

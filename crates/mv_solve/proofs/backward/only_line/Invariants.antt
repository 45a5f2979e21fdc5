use Rattle.std.proofs.Common.{MatchOption}
use Rattle.mv_solve.proofs.Spreading.{IsNoneSoFar, IsOnlySoFar}
use Rattle.mv_solve.proofs.backward.only_line.Given as goal

abbrev pub invariant-loop-line : goal.invariant-loop-line
invariant-loop-line l = MatchOption l.only (IsNoneSoFar l.known l.lines l.line-index l.value.0) (λ o. IsOnlySoFar l.known l.lines l.line-index l.value.0 o.now)

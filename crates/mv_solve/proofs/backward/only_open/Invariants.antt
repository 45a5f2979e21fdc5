use Rattle.std.proofs.Common.{MatchOption}
use Rattle.mv_solve.proofs.Spreading.{IsShut, IsOpenSoFar}
use Rattle.mv_solve.proofs.backward.only_open.Given as goal

abbrev pub invariant-loop-literal : goal.invariant-loop-literal
invariant-loop-literal l = MatchOption l.open (IsShut l.known l.cube l.literal-index) (λ o. IsOpenSoFar l.known l.cube l.literal-index o.now)

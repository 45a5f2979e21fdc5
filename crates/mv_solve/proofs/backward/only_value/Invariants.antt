use Rattle.std.proofs.Common.{MatchOption}
use Rattle.mv_base.specs.Set.{has}
use Rattle.mv_solve.specs.Known.{IsOnlyValue}
use Rattle.mv_solve.proofs.Spreading.{IsNoValue}
use Rattle.mv_solve.proofs.backward.only_value.Given as goal

abbrev pub invariant-loop-number : goal.invariant-loop-number
invariant-loop-number l = MatchOption l.only (IsNoValue (has l.literal.set) l.inside l.number) (λ v. IsOnlyValue (has l.literal.set) l.inside l.number v.0)

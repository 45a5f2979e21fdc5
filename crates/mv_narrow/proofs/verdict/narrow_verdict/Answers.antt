-- Where no table below is partial, each is total.
use Rattle.std.proofs.lemmas.Bool.{MatchBool-at_true}
use Rattle.mv_narrow.proofs.verdict.narrow_verdict.Goals as goal

pub verdict_above_total-requires-clause-below : goal.verdict_above_total-requires-clause-below
verdict_above_total-requires-clause-below c = MatchBool-at_true _ _ c.if-not-branch.false c.in_ok-are_total_below.ensures

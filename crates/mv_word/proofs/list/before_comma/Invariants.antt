use Rattle.mv_word.specs.Entries.{is_inside}
use Rattle.mv_word.proofs.Fronts.{IsPassed}
use Rattle.mv_word.proofs.list.before_comma.Given as goal

abbrev pub invariant-loop-at : goal.invariant-loop-at
invariant-loop-at l = IsPassed is_inside l.bytes l.at

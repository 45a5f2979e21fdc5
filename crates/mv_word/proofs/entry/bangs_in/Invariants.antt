use Rattle.mv_lex.specs.Words.{is_bang}
use Rattle.mv_word.proofs.Fronts.{IsPassed}
use Rattle.mv_word.proofs.entry.bangs_in.Given as goal

abbrev pub invariant-loop-at : goal.invariant-loop-at
invariant-loop-at l = IsPassed is_bang l.word l.at

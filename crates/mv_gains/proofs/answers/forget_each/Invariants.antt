use Rattle.std.proofs.Common.{[], ◌∷◌, take}
use Rattle.mv_gains.specs.Answers.{Forgets}
use Rattle.mv_gains.proofs.answers.forget_each.Given as goal

abbrev pub invariant-loop-symbol : goal.invariant-loop-symbol
invariant-loop-symbol l = Forgets (take l.symbol-index l.symbols ∷ []) l.fn.answers l.answers

use Rattle.std.proofs.Common.{◌≡◌, ℕ, ◌<◌}
use Rattle.mv_base.specs.Words.{word_of}
use Rattle.mv_base.proofs.value_set.ValueSet.least.Given as goal

abbrev pub invariant-loop-at : goal.invariant-loop-at
invariant-loop-at l = (k : ℕ) → k < l.at → word_of l.self k ≡ 0

-- The codes so far, and behind them those that are left, are all codes.
use Rattle.std.proofs.Common.{◌≡◌, ◌++◌, drop, map}
use Rattle.mv_step.specs.Lines.{code_of}
use Rattle.mv_step.proofs.encoding.codes_of.Given as goal

abbrev pub invariant-loop-word : goal.invariant-loop-word
invariant-loop-word l = l.list ++ map code_of (drop l.word-index l.words) ≡ map code_of l.words

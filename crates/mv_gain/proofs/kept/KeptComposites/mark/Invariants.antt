use Rattle.mv_gain.specs.Pairs.{IsPart}
use Rattle.mv_gain.proofs.kept.KeptComposites.mark.Given as goal

abbrev pub invariant-loop-n : goal.invariant-loop-n
invariant-loop-n l = IsPart l.fn.self l.self

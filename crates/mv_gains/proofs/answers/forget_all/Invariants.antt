use Rattle.std.proofs.Common.{take}
use Rattle.mv_gains.specs.Answers.{Forgets}
use Rattle.mv_gains.proofs.answers.forget_all.Given as goal

abbrev pub invariant-loop-cube : goal.invariant-loop-cube
invariant-loop-cube l = Forgets (take l.cube-index l.cubes) l.fn.answers l.answers

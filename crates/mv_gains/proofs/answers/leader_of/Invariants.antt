use Rattle.std.proofs.Common.{None}
use Rattle.mv_gains.specs.Answers.{IsLed}
use Rattle.mv_gains.proofs.answers.leader_of.Given as goal

abbrev pub invariant-loop-place : goal.invariant-loop-place
invariant-loop-place l = IsLed l.answers None l.best

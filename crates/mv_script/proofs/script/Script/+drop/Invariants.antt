-- What is left to let go is no deeper than the script.
use Rattle.std.proofs.Common.{◌≤◌}
use Rattle.mv_script.specs.declared.script.Script.{size-Script}
use Rattle.mv_script.proofs.script.Script.+drop.Given as goal

abbrev pub invariant-loop-self : goal.invariant-loop-self
invariant-loop-self l = size-Script l.self ≤ size-Script l.fn.self

use Rattle.std.proofs.Common.{◌≡◌, take}
use Rattle.mv_rule_body.specs.Named.{literals_named}
use Rattle.mv_rule_body.proofs.body.literals_of.Given as goal

abbrev pub invariant-loop-literal : goal.invariant-loop-literal
invariant-loop-literal l = l.body ≡ literals_named l.net.nets (take l.literal-index l.lits)

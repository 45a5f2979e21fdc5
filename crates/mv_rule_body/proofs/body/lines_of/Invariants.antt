use Rattle.std.proofs.Common.{◌≡◌, map, take}
use Rattle.mv_rule_body.specs.Named.{line_named}
use Rattle.mv_rule_body.proofs.body.lines_of.Given as goal

abbrev pub invariant-loop-line : goal.invariant-loop-line
invariant-loop-line l = l.body ≡ map (line_named l.net.nets) (take l.line-index l.lines)

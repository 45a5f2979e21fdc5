use Rattle.mv_flex.specs.Checks.{AreBlocked}
use Rattle.mv_flex.proofs.flexibility.Flexibility.all_blocked.Given as goal

abbrev pub invariant-loop-pair : goal.invariant-loop-pair
invariant-loop-pair l = AreBlocked l.self l.line l.fanin.0 l.pair l.blocked

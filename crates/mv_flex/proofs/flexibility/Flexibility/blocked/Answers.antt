-- The values that pairs outside block.
use Rattle.mv_flex.proofs.Blocking.{blocked_values}
use Rattle.mv_flex.proofs.flexibility.Flexibility.blocked.Goals as goal

pub returns-clause-ok : goal.returns-clause-ok
returns-clause-ok c = λ net w n budget flex over reads u. blocked_values net w n budget c.args.self.now c.args.line.now c.args.fanin.0 _ flex over reads c.in_ok-all_blocked.ensures u

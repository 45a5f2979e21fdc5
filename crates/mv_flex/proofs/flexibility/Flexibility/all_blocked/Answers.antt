-- No value is blocked at first, and then the values at one pair more.
use Rattle.std.proofs.Common.{sym, subst}
use Rattle.mv_flex.specs.Checks.{AreBlocked}
use Rattle.mv_flex.proofs.Blocking.{blocked_none, blocked_more}
use Rattle.mv_flex.proofs.flexibility.Flexibility.all_blocked.Goals as goal

pub loop-pair-init : goal.loop-pair-init
loop-pair-init c =
    subst (λ s. AreBlocked c.args.self.now c.args.line.now c.args.fanin.0 0 s) (sym c.empty-blocked.ensures) (blocked_none c.args.self.now c.args.line.now c.args.fanin.0)

pub loop-pair-preserved : goal.loop-pair-preserved
loop-pair-preserved c =
    blocked_more c.args.self.now c.args.line.now c.args.fanin.0 c.loop-pair.pair c.loop-pair.blocked c.in_ok-with.with c.join-blocked.result c.loop-pair.invariant c.in_ok-with.ensures c.join-blocked.ensures

-- The reset values are asked at the first step alone.
use Rattle.mv_tracing.proofs.Giving.{as_many, gives_none, latches_long, none_first}
use Rattle.mv_tracing.proofs.asking.ask_first.Goals as goal

pub ask_resets-requires-clause-long : goal.ask_resets-requires-clause-long
ask_resets-requires-clause-long c =
    as_many c.latches.result.now c.args.net.now.latches c.list.result.now c.args.step.now.latches c.latches.ensures c.list.ensures (latches_long c.args.net.now c.args.step.now c.requires.fits)

pub ask_resets-requires-clause-held : goal.ask_resets-requires-clause-held
ask_resets-requires-clause-held c = rw (c.latches.ensures, c.list.ensures) (rw c.if-k-eq0.true at c.requires.held)

pub returns-then-k-eq0 : goal.returns-then-k-eq0
returns-then-k-eq0 c = rw c.if-k-eq0.true (rw (c.latches.ensures, c.list.ensures) at c.ask_resets.ensures)

pub returns-else-k-eq0 : goal.returns-else-k-eq0
returns-else-k-eq0 c = rw (none_first c.args.net.now c.args.k c.args.step.now c.if-k-eq0.false) (gives_none _)

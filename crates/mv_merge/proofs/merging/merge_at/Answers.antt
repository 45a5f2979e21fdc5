-- A net that isn't held or that somebody outside sees has no merge, and any other the one that comes first.
use Rattle.std.proofs.Common.{◌∙◌, sym}
use Rattle.mv_merge.proofs.Searching.{unheld_none, seen_none, unseen_answer}
use Rattle.mv_merge.proofs.merging.merge_at.Goals as goal

pub returns-then-not-holds : goal.returns-then-not-holds
returns-then-not-holds c = unheld_none c.args.net.now c.args.n.0 (sym c.holds.ensures ∙ c.if-not-holds.true)

pub returns-then-is_seen : goal.returns-then-is_seen
returns-then-is_seen c = seen_none c.args.net.now c.args.n.0 (sym c.is_seen.ensures ∙ c.if-is_seen.true)

pub returns : goal.returns
returns c = unseen_answer c.args.net.now c.args.n.0 c.next_merge.result (sym c.is_seen.ensures ∙ c.if-is_seen.false) c.next_merge.ensures

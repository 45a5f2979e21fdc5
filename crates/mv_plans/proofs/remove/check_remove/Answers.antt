-- A net with readers is read: Read is the first check that fails.
use Rattle.std.proofs.Common.{◌∙◌, refl, sym, inl, inr}
use Rattle.mv_plans.proofs.Named.{listed_reader, read_not_unread}
use Rattle.mv_plans.proofs.remove.check_remove.Goals as goal

pub returns-then-not-is_empty : goal.returns-then-not-is_empty
returns-then-not-is_empty c =
    let nets = c.args.net.now.nets in
    let read = listed_reader nets c.args.n.0 c.readers.result.now c.readers.ensures (sym c.is_empty.ensures ∙ c.if-not-is_empty.true) in
    inr (inr (record { unseen = sym c.is_seen.ensures ∙ c.if-is_seen.false }, inl (read_not_unread nets c.args.n.0 read, refl)))

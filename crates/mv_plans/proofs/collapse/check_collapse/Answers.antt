-- The checks before have passed: the net is unseen and read.
use Rattle.std.proofs.Common.{◌∙◌, refl, sym, inl, inr}
use Rattle.mv_plans.proofs.Named.{listed_reader}
use Rattle.mv_plans.proofs.collapse.check_collapse.Goals as goal

pub returns-then-not-is_unshared : goal.returns-then-not-is_unshared
returns-then-not-is_unshared c =
    let read = listed_reader c.args.net.now.nets c.args.n.0 c.readers.result.now c.readers.ensures (sym c.is_empty.ensures ∙ c.if-is_empty.false) in
    inr (inr (record { unseen = sym c.is_seen.ensures ∙ c.if-is_seen.false }, inr (read, inl (rw c.if-not-is_unshared.true at c.is_unshared.ensures, refl))))

pub returns : goal.returns
returns c = record {
  unseen = record { unseen = sym c.is_seen.ensures ∙ c.if-is_seen.false };
  read = listed_reader c.args.net.now.nets c.args.n.0 c.readers.result.now c.readers.ensures (sym c.is_empty.ensures ∙ c.if-is_empty.false);
  unshared = rw c.if-not-is_unshared.false at c.is_unshared.ensures;
}

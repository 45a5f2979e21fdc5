-- A table below isn't total, or the verdict tells it.
use Rattle.std.proofs.Common.{inl, inr, refl}
use Rattle.mv_net.specs.Nets.{slot}
use Rattle.mv_plans.proofs.Narrowed.{reads_within, table_held, verdict_at}
use Rattle.mv_plans.proofs.lawful.judged_next.Goals as goal

pub is_below-requires-clause-held : goal.is_below-requires-clause-held
is_below-requires-clause-held c = table_held (slot c.args.net.now.nets c.args.n.0) c.requires.table

pub returns-then-is_below : goal.returns-then-is_below
returns-then-is_below c = inr (inr (inl (rw c.if-is_below.true at c.is_below.ensures, refl)))

pub verdict_above_total-requires : goal.verdict_above_total-requires
verdict_above_total-requires c = record {
  table = c.requires.table;
  reads = λ old table. reads_within c.args.net.now.nets c.args.n.0 old c.args.table.now table c.requires.reads;
  below = rw c.if-is_below.false at c.is_below.ensures;
}

pub returns-in-Ok : goal.returns-in-Ok
returns-in-Ok c =
    verdict_at c.args.net.now c.args.n.0 c.args.d c.args.u c.args.budget c.args.table.now c.of_verdict.result c.in-Ok.verdict c.requires.table c.in-Ok.ensures c.of_verdict.ensures

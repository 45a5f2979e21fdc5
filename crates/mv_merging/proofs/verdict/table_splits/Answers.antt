use Rattle.std.proofs.Common.{◌∙◌, sym}
use Rattle.mv_net.specs.Nets.{slot}
use Rattle.mv_merging.proofs.Looking.{unheld_splits}
use Rattle.mv_merging.proofs.verdict.table_splits.Goals as goal

pub held_splits-requires : goal.held_splits-requires
held_splits-requires c = sym c.holds.ensures ∙ c.if-holds.true

pub returns : goal.returns
returns c = unheld_splits c.args.n.0 c.args.u.0 c.args.v.0 (slot c.args.net.now.nets c.args.m.0) (sym c.holds.ensures ∙ c.if-holds.false)

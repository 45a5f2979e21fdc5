-- A number that isn't held has no table.
use Rattle.std.proofs.Common.{◌∙◌, sym}
use Rattle.mv_net.specs.Nets.{slot, table_in}
use Rattle.mv_merging.specs.Verdicts.{table_splits}
use Rattle.mv_merging.proofs.Looking.{unheld_splits}
use Rattle.mv_alike.proofs.Refining.{refined_nothing}
use Rattle.mv_alike.proofs.classes.refine_by_table.Goals as goal

pub refine_by_held-requires-clause-held : goal.refine_by_held-requires-clause-held
refine_by_held-requires-clause-held c = sym c.holds.ensures ∙ c.if-holds.true

pub returns-then-holds : goal.returns-then-holds
returns-then-holds c = c.refine_by_held.ensures

pub returns : goal.returns
returns c =
    refined_nothing (λ u v. table_splits c.args.n.0 u v (table_in (slot c.args.net.now.nets c.args.m.0))) c.args.classes.now.items c.requires.numbered
    (λ u v. sym (unheld_splits c.args.n.0 u v (slot c.args.net.now.nets c.args.m.0) (sym c.holds.ensures ∙ c.if-holds.false)))

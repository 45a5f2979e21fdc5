-- A full set asks nothing.
use Rattle.std.proofs.Common.{◌∙◌, sym, ap}
use Rattle.mv_merging.specs.Values.{merged_set}
use Rattle.mv_merging.proofs.Written.{asked_full, asked_put}
use Rattle.mv_merging.proofs.tables.put_asked.Goals as goal

pub returns-then-is_full : goal.returns-then-is_full
returns-then-is_full c =
    asked_full c.args.l.now.net c.args.m.left c.merged-values.result (merged_set c.args.m c.args.l.now.set) c.args.all.now (c.merged-values.ensures ∙ ap (merged_set c.args.m) c.set.ensures)
    (sym c.is_full.ensures ∙ c.if-is_full.true)

pub returns : goal.returns
returns c =
    c.in_ok-push.ensures.ok
    ∙ asked_put c.args.l.now.net c.args.m.left c.merged-values.result (merged_set c.args.m c.args.l.now.set) c.in_ok-asked.asked c.args.all.now
    (c.merged-values.ensures ∙ ap (merged_set c.args.m) c.set.ensures) (sym c.is_full.ensures ∙ c.if-is_full.false) (c.in_ok-asked.ensures.net ∙ c.net.ensures.value) c.in_ok-asked.ensures.set

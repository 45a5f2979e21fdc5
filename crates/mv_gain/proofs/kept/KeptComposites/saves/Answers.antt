-- Too many literals come, or a composite is too wide.
use Rattle.mv_gain.proofs.Over.{over_stays, wide_stays}
use Rattle.mv_gain.proofs.kept.KeptComposites.saves.Goals as goal

pub returns-then-is_over-clause-saves : goal.returns-then-is_over-clause-saves
returns-then-is_over-clause-saves c =
    over_stays c.args.net.now _ c.args.n c.most_to_come-most.result c.well_formed-2.ensures c.in_ok-fill.ensures.right c.most_to_come-most.ensures c.if-is_over.ensures

pub returns-in-Wide-clause-saves : goal.returns-in-Wide-clause-saves
returns-in-Wide-clause-saves c = wide_stays c.args.net.now c.args.n.0 c.well_formed-2.ensures c.in-Wide.ensures

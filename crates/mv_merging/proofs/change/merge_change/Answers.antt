-- The change is the one that makes the network behind the merge.
use Rattle.mv_merging.proofs.Changing.{change_makes, change_fits}
use Rattle.mv_merging.proofs.change.merge_change.Goals as goal

pub returns-clause-makes : goal.returns-clause-makes
returns-clause-makes c =
    change_makes c.args.net.now c.args.n c.args.gone c.args.into c.merging_at-m.result c.in_ok-set.set c.in_ok-values.values c.change_of-change.result c.well_formed-2.ensures c.requires c.merging_at-m.ensures.is
    c.in_ok-set.ensures c.in_ok-values.ensures c.change_of-change.ensures

pub returns-clause-fits : goal.returns-clause-fits
returns-clause-fits c =
    change_fits c.args.net.now c.args.n c.args.gone c.args.into c.merging_at-m.result c.in_ok-set.set c.in_ok-values.values c.change_of-change.result c.well_formed-2.ensures c.requires c.merging_at-m.ensures.is
    c.in_ok-set.ensures c.in_ok-values.ensures c.change_of-change.ensures

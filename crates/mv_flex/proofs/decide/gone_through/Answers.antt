-- The points are gone through by the plan.
use Rattle.mv_flex.proofs.Going.{flex_made, ready}
use Rattle.mv_flex.proofs.decide.gone_through.Goals as goal

pub outside_pairs-requires : goal.outside_pairs-requires
outside_pairs-requires c =
    ready c.args.net.now c.args.w.now c.args.n.0 c.in_ok-plan.plan (record { formed = c.well_formed-2.ensures; window = c.requires.window; tabled = c.requires.table; few = c.requires.few; plan = c.in_ok-plan.ensures })

pub returns : goal.returns
returns c =
    λ budget. flex_made c.args.net.now c.args.w.now c.args.n.0 c.in_ok-plan.plan
    (record { formed = c.well_formed-2.ensures; window = c.requires.window; tabled = c.requires.table; few = c.requires.few; plan = c.in_ok-plan.ensures })
    budget c.in_ok-old.old c.in_ok-outside.outside c.in_ok-old.ensures c.in_ok-outside.ensures

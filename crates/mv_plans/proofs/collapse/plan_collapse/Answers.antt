-- A reader's composite is too wide; or none is, and the change puts the net into its readers.
use Rattle.std.proofs.Common.{map, ap, subst, inr}
use Rattle.mv_composite.specs.Composite.{composed}
use Rattle.mv_net.specs.Nets.{values_in}
use Rattle.mv_readers.specs.Readers.{AreRewritten}
use Rattle.mv_plans.proofs.Collapsed.{wide_fails, has_composites, planned}
use Rattle.mv_plans.proofs.collapse.plan_collapse.Goals as goal

pub returns-in-Err-Wide : goal.returns-in-Err-Wide
returns-in-Err-Wide c =
    inr (inr (c.in-Some.n.0, c.in-Some.ensures, wide_fails c.args.net.now c.in-Some.n.0 c.in-Ok-inner_of.inner c.in-Ok-inner_of.ensures.known (ap (λ n. n.0) c.in-Ok-inner_of.ensures.net) c.in-Ok.ensures (c.in-Err-Wide.ensures.wide c.in-Err-Wide.field-0-is)))

pub returns-in-Ok-going_into : goal.returns-in-Ok-going_into
returns-in-Ok-going_into c =
    let net = c.args.net.now in
    let inner = c.in-Ok-inner_of.inner in
    let same = ap (λ n. n.0) c.in-Ok-inner_of.ensures.net in
    let has = has_composites net.nets c.in-Some.n.0 inner c.in-Ok-inner_of.ensures.known same c.in-Ok-composites.ensures.narrow in
    planned net c.args.name.now c.in-Some.n c.in-Ok-composites.set c.in-Ok-going_into.change c.well_formed-2.ensures c.few.ensures c.in-Some.ensures c.in-Ok.ensures has
    (subst (λ k. AreRewritten net.nets (composed (map values_in net.nets) inner) k c.in-Ok-composites.set) same c.in-Ok-composites.ensures.tables) c.in-Ok-going_into.ensures

-- Net by net.
use Rattle.std.proofs.Common.{◌+◌, ◌++◌, [], drop, get_or, sym, ◌∙◌, ap}
use Rattle.mv_fault.specs.Tells.{when}
use Rattle.mv_fault.specs.declared.flat.FlatFault.TheVariants.{Undriven}
use Rattle.mv_unfold.specs.Driven.{undriven_counted}
use Rattle.mv_unfold.proofs.AtPlaces.{undriven_more, some_driver}
use Rattle.mv_unfold.proofs.driving.check_undriven.Goals as goal

pub loop-at-preserved : goal.loop-at-preserved
loop-at-preserved c =
    let names = c.args.names.now in
    let counts = c.args.counts.now in
    let at = c.loop-at.at in
    ap (λ b. when b (Undriven (get_or names at [])) ++ undriven_counted (drop (at + 1) names) (drop (at + 1) counts)) (sym (some_driver (get_or counts at 0) c.if-counts-at-eq0.false))
    ∙ (sym (undriven_more names counts at c.loop-at-test.true c.requires) ∙ c.loop-at.invariant)

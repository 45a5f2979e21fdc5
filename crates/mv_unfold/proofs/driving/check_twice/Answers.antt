-- Net by net.
use Rattle.std.proofs.Common.{◌+◌, ◌++◌, [], drop, get_or, sym, ◌∙◌, ap}
use Rattle.mv_fault.specs.Tells.{when}
use Rattle.mv_fault.specs.declared.flat.FlatFault.TheVariants.{DrivenTwice}
use Rattle.mv_unfold.specs.Driven.{twice_counted}
use Rattle.mv_unfold.proofs.AtPlaces.{twice_more, one_at_most}
use Rattle.mv_unfold.proofs.driving.check_twice.Goals as goal

pub loop-at-preserved : goal.loop-at-preserved
loop-at-preserved c =
    let names = c.args.names.now in
    let counts = c.args.counts.now in
    let at = c.loop-at.at in
    ap (λ b. when b (DrivenTwice (get_or names at [])) ++ twice_counted (drop (at + 1) names) (drop (at + 1) counts)) (sym (one_at_most (get_or counts at 0) c.if-counts-at-gt1.false))
    ∙ (sym (twice_more names counts at c.loop-at-test.true c.requires) ∙ c.loop-at.invariant)

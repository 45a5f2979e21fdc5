-- Behind the last place nothing is left to look at.
use Rattle.std.proofs.Common.{◌∙◌, arith}
use Rattle.mv_shapes.proofs.Everywhere.{full_at_end}
use Rattle.mv_shapes.proofs.full.are_full.Goals as goal

pub returns : goal.returns
returns c =
    let e = c.min-place-end.ensures in
    full_at_end c.args.counts.now c.args.sets.now c.loop-place.place (omega (arith, e, c.loop-place-test.false)) ∙ c.loop-place.invariant

-- A net that isn't the one is passed over.
use Rattle.std.proofs.Common.{◌∙◌, sym}
use Rattle.mv_flex.proofs.Numbering.{value_at_next}
use Rattle.mv_flex.proofs.space.value_at.Goals as goal

pub loop-place-preserved : goal.loop-place-preserved
loop-place-preserved c =
    value_at_next c.args.nets.now c.args.values.now c.loop-place.place c.args.net.0 (record { 0 = 0 }) c.loop-place-test.true (sym c.eq.ensures ∙ c.if-eq.false) ∙ c.loop-place.invariant

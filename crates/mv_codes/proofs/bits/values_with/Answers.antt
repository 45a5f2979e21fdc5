-- The value comes where its code has the bit.
use Rattle.std.proofs.Common.{◌∙◌, ap}
use Rattle.mv_base.specs.Set.{join}
use Rattle.mv_codes.proofs.Images.{values_taken, values_left}
use Rattle.mv_codes.proofs.bits.values_with.Goals as goal
use Rattle.mv_codes.proofs.bits.values_with.Goals.{then-bit_at-bit, else-bit_at-bit}

pub loop-v-preserved : goal.loop-v-preserved
loop-v-preserved c =
    elim c.if-bit_at-bit.branch [
      | then-bit_at-bit w ↦
          values_taken c.args.codes.now c.args.place c.loop-v.v c.args.bit c.bit_at.result c.index-codes-v.result c.loop-v.values c.if-bit_at-bit.values c.loop-v-test.true c.index-codes-v.is c.bit_at.ensures c.loop-v.invariant w.if-bit_at-bit.true
          (w.values-is ∙ (w.join-values.ensures ∙ ap (join c.loop-v.values) w.one.ensures))
      | else-bit_at-bit w ↦
          w.values-is ∙ values_left c.args.codes.now c.args.place c.loop-v.v c.args.bit c.bit_at.result c.index-codes-v.result c.loop-v.values c.loop-v-test.true c.index-codes-v.is c.bit_at.ensures c.loop-v.invariant w.if-bit_at-bit.false
    ]

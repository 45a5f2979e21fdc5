use Rattle.std.proofs.Common.{[], ◌∷◌, arith, length-append}
use Rattle.mv_joint.proofs.Lists.{outputs_more}
use Rattle.mv_joint.proofs.joint.output_covers.Goals as goal

pub loop-output-preserved : goal.loop-output-preserved
loop-output-preserved c =
    let covers = c.loop-output.covers in
    rw c.in_ok-push.ensures.ok
    (record {
      many = omega (arith, length-append covers (c.in_ok-output_cover.field-0 ∷ []), c.loop-output.invariant.many);
      each = outputs_more c.args.all.now c.args.mark c.args.choice 0 c.loop-output.output covers _ (omega (arith, c.loop-output.invariant.many)) c.loop-output.invariant.each c.in_ok-output_cover.ensures;
    })

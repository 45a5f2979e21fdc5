-- One point more, and the next point.
use Rattle.std.proofs.Common.{◌≡◌, ◌∙◌, refl, sym, subst, arith}
use Rattle.mv_flex.specs.Spaces.{AreBelow}
use Rattle.mv_flex.specs.Plans.{counts_of}
use Rattle.mv_flex.proofs.Numbering.{point_long, next_point}
use Rattle.mv_flex.proofs.Marking.{adds_point, adds_bad}
use Rattle.mv_flex.proofs.search.mark_stuck.Goals as goal

pub mark_point-requires-clause-point : goal.mark_point-requires-clause-point
mark_point-requires-clause-point c =
    subst (AreBelow (counts_of c.args.net.now.nets c.args.plan.now.nets)) (sym (c.as_slice-point.ensures.value ∙ c.loop-hidden.invariant.values)) (c.requires.ready.ranged c.args.start.now c.loop-hidden.hidden c.requires.start)

pub step-requires : goal.step-requires
step-requires c = point_long c.args.plan.now.hidden.counts c.args.start.now c.loop-hidden.values.items c.loop-hidden.hidden c.loop-hidden.invariant.values

pub loop-hidden-preserved : goal.loop-hidden-preserved
loop-hidden-preserved c = record {
  values = next_point c.args.plan.now.hidden.counts c.args.start.now c.loop-hidden.values.items _ _ c.loop-hidden.hidden c.counted.ensures.some c.loop-hidden.invariant.values refl c.step.ensures;
  adds =
      adds_point c.args.net.now.nets c.args.plan.now c.args.start.now c.loop-hidden.hidden c.as_slice-point.result.now c.args.marks.now.items c.loop-hidden.marks.items _ (c.as_slice-point.ensures.value ∙ c.loop-hidden.invariant.values) c.loop-hidden.invariant.adds c.mark_point.ensures;
}

pub returns : goal.returns
returns c =
    let end : c.loop-hidden.hidden ≡ c.args.plan.now.hidden.size = omega arith in
    adds_bad c.args.net.now.nets c.args.plan.now c.args.start.now c.loop-hidden.hidden c.args.marks.now.items c.loop-hidden.marks.items end c.requires.stuck c.loop-hidden.invariant.adds

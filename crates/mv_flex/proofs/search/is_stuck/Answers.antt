-- One point more that doesn't agree with all, and the next point.
use Rattle.std.proofs.Common.{◌≡◌, ◌∙◌, ℕ, false, refl, sym, ap, subst}
use Rattle.mv_flex.specs.Spaces.{AreBelow}
use Rattle.mv_flex.specs.Plans.{counts_of, window_agrees, point_at}
use Rattle.mv_flex.proofs.Numbering.{point_long, next_point}
use borrow.Author.Count.{below_more}
use Rattle.mv_flex.proofs.search.is_stuck.Goals as goal

pub all_agree-requires-clause-point : goal.all_agree-requires-clause-point
all_agree-requires-clause-point c =
    subst (AreBelow (counts_of c.args.net.now.nets c.args.plan.now.nets)) (sym (c.as_slice-point.ensures.value ∙ c.loop-hidden.invariant.values)) (c.requires.ready.ranged c.args.start.now c.loop-hidden.hidden c.requires.start)

pub step-requires : goal.step-requires
step-requires c = point_long c.args.plan.now.hidden.counts c.args.start.now c.loop-hidden.values.items c.loop-hidden.hidden c.loop-hidden.invariant.values

pub loop-hidden-preserved : goal.loop-hidden-preserved
loop-hidden-preserved c = record {
  values = next_point c.args.plan.now.hidden.counts c.args.start.now c.loop-hidden.values.items _ _ c.loop-hidden.hidden c.counted.ensures.some c.loop-hidden.invariant.values refl c.step.ensures;
  none =
      below_more (λ (h : ℕ). window_agrees c.args.net.now.nets c.args.plan.now (point_at c.args.plan.now c.args.start.now h) ≡ false) c.loop-hidden.hidden c.loop-hidden.invariant.none
      (ap (window_agrees c.args.net.now.nets c.args.plan.now) (sym (c.as_slice-point.ensures.value ∙ c.loop-hidden.invariant.values)) ∙ sym c.all_agree.ensures ∙ c.if-all_agree.false);
}

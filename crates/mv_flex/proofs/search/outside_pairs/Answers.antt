-- The marks at one more number of inputs and outputs, and the next number.
use Rattle.std.proofs.Common.{◌≡◌, ◌∙◌, Bool, ℕ, List, [], refl, sym, subst, arith}
use Rattle.mv_flex.specs.Plans.{MarksBelow}
use Rattle.mv_flex.proofs.Numbering.{point_long, next_point}
use Rattle.mv_flex.proofs.Marking.{marks_more}
use Rattle.mv_flex.proofs.search.outside_pairs.Goals as goal

pub mark_at-requires-clause-start : goal.mark_at-requires-clause-start
mark_at-requires-clause-start c = record { number = c.loop-shown.shown; is = c.as_slice-first.ensures.value ∙ c.loop-shown.invariant.start }

pub step-requires : goal.step-requires
step-requires c = point_long c.args.plan.now.shown.counts [] c.loop-shown.start.items c.loop-shown.shown c.loop-shown.invariant.start

pub loop-shown-preserved : goal.loop-shown-preserved
loop-shown-preserved c = record {
  marks =
      marks_more c.args.net.now.nets c.args.plan.now c.loop-shown.shown c.as_slice-first.result.now c.loop-shown.marks.items c.mark_at.new.marks.items (c.as_slice-first.ensures.value ∙ c.loop-shown.invariant.start) c.loop-shown.invariant.marks c.in_ok-mark_at.ensures;
  start = next_point c.args.plan.now.shown.counts [] c.loop-shown.start.items _ 0 c.loop-shown.shown c.counted.ensures.some c.loop-shown.invariant.start refl c.step.ensures;
}

pub returns : goal.returns
returns c =
    let end : c.loop-shown.shown ≡ c.args.plan.now.shown.size = omega arith in
    subst (λ (l : List Bool). MarksBelow c.args.net.now.nets c.args.plan.now c.args.plan.now.shown.size l) (sym c.of.ensures)
    (subst (λ (k : ℕ). MarksBelow c.args.net.now.nets c.args.plan.now k c.loop-shown.marks.items) end c.loop-shown.invariant.marks)

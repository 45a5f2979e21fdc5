-- Each step of the walk goes on with what is left, and the end takes the rest.
use Rattle.std.proofs.Common.{arith, inl, inr}
use Rattle.mv_cover.proofs.Meets.{short_step, merge_more, merge_ends}
use Rattle.mv_cover.proofs.meet.merged.Goals as goal
use Rattle.mv_cover.proofs.meet.merged.Goals.{then-loop-i-test+else-j-b, else-loop-i-test}

pub loop-i-preserved : goal.loop-i-preserved
loop-i-preserved c =
    let short = short_step c.index-a-i.result c.index-b-j.result c.in_ok-step.step c.in_ok-step.ensures in (
      omega arith,
      omega arith,
      merge_more c.args.a.now c.args.b.now c.loop-i.met.items c.push.new.self.items c.loop-i.i c.loop-i.j c.index-a-i.result c.index-b-j.result c.in_ok-step.step c.in_ok-push.ensures.ok (omega arith) (omega arith) c.index-a-i.is c.index-b-j.is c.in_ok-step.ensures c.loop-i.invariant.2,
    )

pub returns : goal.returns
returns c =
    merge_ends c.args.a.now c.args.b.now c.loop-i.met.items c.copy_all.new.copies.items c.copy_all-2.new.copies.items c.loop-i.i c.loop-i.j
    (elim c.loop-i-test.branch [ then-loop-i-test+else-j-b w ↦ inr (omega arith) | else-loop-i-test w ↦ inl (omega arith) ])
    c.loop-i.invariant.2 c.in_ok-copy_all.ensures c.in_ok-copy_all-2.ensures

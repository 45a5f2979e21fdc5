-- One step more applied, or it is the first that doesn't.
use Rattle.std.proofs.Common.{sym, ap, subst}
use Rattle.mv_base.proofs.Meanings.{Refines-then}
use Rattle.mv_net.specs.declared.parts.NetParts.{NetParts}
use Rattle.mv_step.specs.declared.step.Step.{Step}
use Rattle.mv_cert.specs.Replay.{EndsEarly}
use Rattle.mv_cert.proofs.Replayed.{more, stops_here}
use Rattle.mv_cert.proofs.replaying.replay.Goals as goal

pub loop-step-preserved : goal.loop-step-preserved
loop-step-preserved c =
    let applies = rw c.step-item.is at c.in-Ok.ensures.applies in
    record {
      ran = more c.args.terms.free c.args.steps.now c.loop-step.step-index c.args.net.now c.loop-step.net c.loop-step.invariant.ran c.step-item.result c.apply_next.new.net c.loop-step-test.true applies;
      refines = Refines-then c.args.terms.free _ _ _ c.in-Ok.ensures.refines c.loop-step.invariant.refines;
      right = c.in-Ok.ensures.right;
    }

pub returns-in-Err-clause-stops : goal.returns-in-Err-clause-stops
returns-in-Err-clause-stops c =
    let P : NetParts → Type 0 = λ n. EndsEarly c.args.terms.free c.args.terms.budget c.args.steps.now c.args.net.now n c.refusal.result in
    let fails = rw c.step-item.is at c.in-Err.ensures.fails in
    subst P (sym c.in-Err.ensures.err)
    (stops_here c.args.terms.free c.args.steps.now c.loop-step.step-index c.args.net.now c.loop-step.net c.loop-step.invariant.ran c.args.terms.budget c.step-item.result _ _ _ c.loop-step-test.true (ap (λ (s : Step). s.line) c.step-item.is) fails c.refusal.ensures.memory c.refusal.ensures.rule)

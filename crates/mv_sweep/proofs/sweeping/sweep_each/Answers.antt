-- Each rule leaves fewer steps, and the nets near its net wait.
use Rattle.std.proofs.Common.{refl, arith}
use Rattle.mv_base.proofs.Meanings.{SameMeaning-refl, SameMeaning-then}
use Rattle.mv_pass.proofs.Coming.{came_none}
use Rattle.mv_pass.proofs.Greedy.{steps_more, steps_end, steps_stop, steps_stuck}
use Rattle.mv_pass.proofs.Stepped.{stuck}
use Rattle.mv_sweep.specs.Sweeps.{IsSwept, IsSweepStep, SweepsAll, SweepsSome}
use Rattle.mv_sweep.proofs.Swept.{all_wait, all_wait_behind}
use Rattle.mv_sweep.proofs.sweeping.sweep_each.Goals as goal

pub returns-in-Err-clause-passes : goal.returns-in-Err-clause-passes
returns-in-Err-clause-passes g c = stuck c.args.terms.free (SweepsAll c.args.terms.free) (SweepsSome c.args.terms.free) _ _ refl

pub returns-in-Err-none-clause-passes : goal.returns-in-Err-none-clause-passes
returns-in-Err-none-clause-passes g c = stuck c.args.terms.free (SweepsAll c.args.terms.free) (SweepsSome c.args.terms.free) _ _ refl

pub sweeping-init : goal.sweeping-init
sweeping-init g c = record {
  came = came_none c.args.terms.free (SweepsSome c.args.terms.free) _ _ refl;
  wait = all_wait c.args.net.now c.in-Ok.agenda _ c.next_number.ensures c.in-Ok.ensures;
  right = c.in-Ok-none.ensures c.args.net.now.nets (omega (arith, c.next_number-2.ensures));
  means = SameMeaning-refl _;
}

pub sweeping-preserved : goal.sweeping-preserved
sweeping-preserved g c =
    let next = rw c.in-Ok-Some.field-0-is at c.in-Ok-Some.ensures.found in
    record {
      came = steps_more c.args.terms.free IsSweepStep _ _ _ _ c.sweeping.invariant.came _ _ c.in-Ok-step.ensures.passes;
      wait = all_wait_behind c.sweeping.net c.step.new.net c.in-Ok-Some.found.n.0 _ _ next.others c.in-Ok-put_near.ensures c.in-Ok-step.ensures.around;
      right = c.in-Ok-step.ensures.around.right c.forget_near.new.self c.in-Ok-forget_near.ensures;
      means = SameMeaning-then _ _ _ c.in-Ok-step.ensures.means c.sweeping.invariant.means;
    }

pub returns-in-Ok-None-clause-passes : goal.returns-in-Ok-None-clause-passes
returns-in-Ok-None-clause-passes g c =
    let swept = rw c.in-Ok-None.field-0-is at c.in-Ok-None.ensures.found in
    steps_end c.args.terms.free IsSweepStep _ _ _ _ c.sweeping.invariant.came IsSwept swept

pub returns-in-Err-next_found-clause-passes : goal.returns-in-Err-next_found-clause-passes
returns-in-Err-next_found-clause-passes g c = steps_stuck c.args.terms.free IsSweepStep _ _ _ _ c.sweeping.invariant.came IsSwept

pub returns-in-Err-put_near-clause-passes : goal.returns-in-Err-put_near-clause-passes
returns-in-Err-put_near-clause-passes g c = steps_stuck c.args.terms.free IsSweepStep _ _ _ _ c.sweeping.invariant.came IsSwept

pub returns-in-Err-forget_near-clause-passes : goal.returns-in-Err-forget_near-clause-passes
returns-in-Err-forget_near-clause-passes g c = steps_stuck c.args.terms.free IsSweepStep _ _ _ _ c.sweeping.invariant.came IsSwept

pub returns-in-Err-step-clause-passes : goal.returns-in-Err-step-clause-passes
returns-in-Err-step-clause-passes g c =
    steps_stop c.args.terms.free IsSweepStep _ _ _ _ c.sweeping.invariant.came IsSwept _ _ _ c.in-Err-step.ensures.passes

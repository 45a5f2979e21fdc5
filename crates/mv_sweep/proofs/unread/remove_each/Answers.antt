-- Each net that goes leaves fewer steps, and those that it read wait.
use Rattle.std.proofs.Common.{refl}
use Rattle.mv_base.proofs.Meanings.{SameMeaning-refl, SameMeaning-then}
use Rattle.mv_pass.proofs.Coming.{came_none}
use Rattle.mv_pass.proofs.Greedy.{steps_more, steps_end, steps_stop, steps_stuck}
use Rattle.mv_pass.proofs.Stepped.{stuck}
use Rattle.mv_sweep.specs.Drops.{IsDropStep, NoneLeft, DropsAll, DropsSome}
use Rattle.mv_sweep.proofs.Search.{all_can_wait, wait_behind_gone, gone_fewer}
use Rattle.mv_sweep.proofs.unread.remove_each.Goals as goal

pub returns-in-Err-clause-passes : goal.returns-in-Err-clause-passes
returns-in-Err-clause-passes g c = stuck c.args.terms.free (DropsAll c.args.terms.free) (DropsSome c.args.terms.free) _ _ refl

pub removing-init : goal.removing-init
removing-init g c = record {
  came = came_none c.args.terms.free (DropsSome c.args.terms.free) _ _ refl;
  wait = all_can_wait c.args.net.now c.in-Ok.agenda _ c.next_number.ensures c.in-Ok.ensures;
  means = SameMeaning-refl _;
}

pub removing-smaller : goal.removing-smaller
removing-smaller g c =
    let found = rw c.in-Ok-Some.field-0-is at c.in-Ok-Some.ensures in
    gone_fewer c.removing.net c.step.new.net c.in-Ok-Some.n.0 found.first.removable c.in-Ok-step.ensures.gone

pub removing-preserved : goal.removing-preserved
removing-preserved g c =
    let found = rw c.in-Ok-Some.field-0-is at c.in-Ok-Some.ensures in
    record {
      came = steps_more c.args.terms.free IsDropStep _ _ _ _ c.removing.invariant.came _ _ c.in-Ok-step.ensures.passes;
      wait = wait_behind_gone c.removing.net c.step.new.net c.in-Ok-Some.n.0 _ _ _ found.others c.fanins.ensures c.in-Ok-put_all.ensures c.in-Ok-step.ensures.gone;
      means = SameMeaning-then _ _ _ c.in-Ok-step.ensures.means c.removing.invariant.means;
    }

pub returns-in-Ok-None-clause-passes : goal.returns-in-Ok-None-clause-passes
returns-in-Ok-None-clause-passes g c =
    let left = rw c.in-Ok-None.field-0-is at c.in-Ok-None.ensures in
    steps_end c.args.terms.free IsDropStep _ _ _ _ c.removing.invariant.came NoneLeft left

pub returns-in-Err-next_removable-clause-passes : goal.returns-in-Err-next_removable-clause-passes
returns-in-Err-next_removable-clause-passes g c = steps_stuck c.args.terms.free IsDropStep _ _ _ _ c.removing.invariant.came NoneLeft

pub returns-in-Err-put_all-clause-passes : goal.returns-in-Err-put_all-clause-passes
returns-in-Err-put_all-clause-passes g c = steps_stuck c.args.terms.free IsDropStep _ _ _ _ c.removing.invariant.came NoneLeft

pub returns-in-Err-step-clause-passes : goal.returns-in-Err-step-clause-passes
returns-in-Err-step-clause-passes g c =
    steps_stop c.args.terms.free IsDropStep _ _ _ _ c.removing.invariant.came NoneLeft _ _ _ c.in-Err-step.ensures.passes

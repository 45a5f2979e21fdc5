-- Each collapse leaves fewer steps, and the nets near its net wait.
use Rattle.std.proofs.Common.{refl}
use Rattle.mv_base.proofs.Meanings.{SameMeaning-refl, SameMeaning-then}
use Rattle.mv_gain.specs.Savings.{NoneSaves}
use Rattle.mv_gain.proofs.Behind.{right_collapsed}
use Rattle.mv_pass.proofs.Coming.{came_none}
use Rattle.mv_pass.proofs.Greedy.{steps_more, steps_end, steps_stop, steps_stuck}
use Rattle.mv_pass.proofs.Stepped.{stuck}
use Rattle.mv_eliminate.specs.Eliminates.{IsEliminateStep, CollapsesAll, CollapsesSome}
use Rattle.mv_eliminate.proofs.Eliminated.{all_wait, all_wait_behind, fewer_left}
use Rattle.mv_eliminate.proofs.eliminating.collapse_each.Goals as goal

pub returns-in-Err-clause-passes : goal.returns-in-Err-clause-passes
returns-in-Err-clause-passes g c = stuck c.args.terms.free (CollapsesAll c.args.terms.free) (CollapsesSome c.args.terms.free) _ _ refl

pub collapsing-init : goal.collapsing-init
collapsing-init g c = record {
  came = came_none c.args.terms.free (CollapsesSome c.args.terms.free) _ _ refl;
  wait = all_wait c.args.net.now c.in-Ok.agenda _ c.next_number.ensures c.in-Ok.ensures;
  right = c.requires;
  means = SameMeaning-refl _;
}

pub collapsing-smaller : goal.collapsing-smaller
collapsing-smaller g c = fewer_left c.collapsing.net c.step.new.net _ c.well_formed-in-collapsing.ensures c.in-Ok-step.ensures.into

pub collapsing-preserved : goal.collapsing-preserved
collapsing-preserved g c =
    let next = rw c.in-Ok-Some.field-0-is at c.in-Ok-Some.ensures.found in
    let into = c.in-Ok-step.ensures.into in
    record {
      came = steps_more c.args.terms.free IsEliminateStep _ _ _ _ c.collapsing.invariant.came _ _ c.in-Ok-step.ensures.passes;
      wait = all_wait_behind c.collapsing.net c.step.new.net c.in-Ok-Some.n.0 _ _ c.well_formed-in-collapsing.ensures next.others c.in-Ok-put_near.ensures into;
      right = right_collapsed c.collapsing.net c.step.new.net into.name _ c.in-Ok-Some.n.0 c.in-Ok-forget_near.ensures into.collapses into.number;
      means = SameMeaning-then _ _ _ c.in-Ok-step.ensures.means c.collapsing.invariant.means;
    }

pub returns-in-Ok-None-clause-passes : goal.returns-in-Ok-None-clause-passes
returns-in-Ok-None-clause-passes g c =
    let none = rw c.in-Ok-None.field-0-is at c.in-Ok-None.ensures.found in
    steps_end c.args.terms.free IsEliminateStep _ _ _ _ c.collapsing.invariant.came NoneSaves none

pub returns-in-Err-next_saving-clause-passes : goal.returns-in-Err-next_saving-clause-passes
returns-in-Err-next_saving-clause-passes g c = steps_stuck c.args.terms.free IsEliminateStep _ _ _ _ c.collapsing.invariant.came NoneSaves

pub returns-in-Err-put_near-clause-passes : goal.returns-in-Err-put_near-clause-passes
returns-in-Err-put_near-clause-passes g c = steps_stuck c.args.terms.free IsEliminateStep _ _ _ _ c.collapsing.invariant.came NoneSaves

pub returns-in-Err-forget_near-clause-passes : goal.returns-in-Err-forget_near-clause-passes
returns-in-Err-forget_near-clause-passes g c = steps_stuck c.args.terms.free IsEliminateStep _ _ _ _ c.collapsing.invariant.came NoneSaves

pub returns-in-Err-step-clause-passes : goal.returns-in-Err-step-clause-passes
returns-in-Err-step-clause-passes g c =
    steps_stop c.args.terms.free IsEliminateStep _ _ _ _ c.collapsing.invariant.came NoneSaves _ _ _ c.in-Err-step.ensures.passes

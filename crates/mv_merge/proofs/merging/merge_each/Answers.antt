-- Each merge leaves fewer values, and the nets near its net wait.
use Rattle.std.proofs.Common.{refl}
use Rattle.mv_base.proofs.Meanings.{SameMeaning-refl, SameMeaning-then}
use Rattle.mv_pass.proofs.Coming.{came_none}
use Rattle.mv_pass.proofs.Greedy.{steps_more, steps_end, steps_stop, steps_stuck}
use Rattle.mv_pass.proofs.Stepped.{stuck}
use Rattle.mv_merge.specs.Merges.{IsMerged, IsMergeStep, MergesAll, MergesSome}
use Rattle.mv_merge.proofs.Searching.{next_held, all_wait, fewer_left, all_wait_behind}
use Rattle.mv_merge.proofs.merging.merge_each.Goals as goal

pub returns-in-Err-clause-passes : goal.returns-in-Err-clause-passes
returns-in-Err-clause-passes g c = stuck c.args.terms.free (MergesAll c.args.terms.free) (MergesSome c.args.terms.free) _ _ refl

pub merging-init : goal.merging-init
merging-init g c = record {
  came = came_none c.args.terms.free (MergesSome c.args.terms.free) _ _ refl;
  wait = all_wait c.args.net.now c.in-Ok.agenda _ c.next_number.ensures c.in-Ok.ensures;
  means = SameMeaning-refl _;
}

pub put_near-requires : goal.put_near-requires
put_near-requires g c =
    let next = rw c.in-Ok-Some.field-0-is at c.in-Ok-Some.ensures in
    next_held c.merging.net c.in-Ok-Some.found.n.0 c.in-Ok-Some.found.next next.first

pub merging-smaller : goal.merging-smaller
merging-smaller g c =
    let next = rw c.in-Ok-Some.field-0-is at c.in-Ok-Some.ensures in
    fewer_left c.merging.net c.step.new.net c.in-Ok-Some.found.n.0 c.in-Ok-Some.found.next c.well_formed-in-merging.ensures next.first c.in-Ok-step.ensures.behind

pub merging-preserved : goal.merging-preserved
merging-preserved g c =
    let next = rw c.in-Ok-Some.field-0-is at c.in-Ok-Some.ensures in
    record {
      came = steps_more c.args.terms.free IsMergeStep _ _ _ _ c.merging.invariant.came _ _ c.in-Ok-step.ensures.passes;
      wait = all_wait_behind c.merging.net c.step.new.net c.in-Ok-Some.found.n.0 c.in-Ok-Some.found.next c.well_formed-in-merging.ensures next.first c.in-Ok-step.ensures.behind
          _ _ next.others c.in-Ok-put_near.ensures;
      means = SameMeaning-then _ _ _ c.in-Ok-step.ensures.means c.merging.invariant.means;
    }

pub returns-in-Ok-None-clause-passes : goal.returns-in-Ok-None-clause-passes
returns-in-Ok-None-clause-passes g c =
    let merged = rw c.in-Ok-None.field-0-is at c.in-Ok-None.ensures in
    steps_end c.args.terms.free IsMergeStep _ _ _ _ c.merging.invariant.came IsMerged merged

pub returns-in-Err-next_found-clause-passes : goal.returns-in-Err-next_found-clause-passes
returns-in-Err-next_found-clause-passes g c = steps_stuck c.args.terms.free IsMergeStep _ _ _ _ c.merging.invariant.came IsMerged

pub returns-in-Err-put_near-clause-passes : goal.returns-in-Err-put_near-clause-passes
returns-in-Err-put_near-clause-passes g c = steps_stuck c.args.terms.free IsMergeStep _ _ _ _ c.merging.invariant.came IsMerged

pub returns-in-Err-step-clause-passes : goal.returns-in-Err-step-clause-passes
returns-in-Err-step-clause-passes g c =
    steps_stop c.args.terms.free IsMergeStep _ _ _ _ c.merging.invariant.came IsMerged _ _ _ c.in-Err-step.ensures.passes

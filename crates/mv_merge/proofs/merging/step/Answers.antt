-- The rule is the merge that comes first at the least net that has one, by its name.
use Rattle.std.proofs.Common.{◌∙◌, refl}
use Rattle.mv_pass.proofs.Greedy.{step_applied, step_unapplied}
use Rattle.mv_pass.proofs.Stepped.{stuck}
use Rattle.mv_merge.specs.Merges.{IsMergeStep, MergesSome}
use Rattle.mv_merge.proofs.Stepping.{can_apply, is_step, is_behind}
use Rattle.mv_merge.proofs.merging.step.Goals as goal

pub returns-in-Err-clause-passes : goal.returns-in-Err-clause-passes
returns-in-Err-clause-passes g c = stuck c.args.terms.free (MergesSome c.args.terms.free) (MergesSome c.args.terms.free) _ _ refl

pub take-requires : goal.take-requires
take-requires g c =
    can_apply c.args.net.now c.args.found.now.n.0 _ c.args.found.now.next c.requires (c.in-Ok.ensures ∙ c.name.ensures) c.args.terms.free

pub returns-in-Ok-take-clause-passes : goal.returns-in-Ok-take-clause-passes
returns-in-Ok-take-clause-passes g c =
    let r = c.in-Ok-take.ensures in
    let lawful = is_step c.args.net.now c.args.found.now.n.0 _ c.args.found.now.next c.requires (c.in-Ok.ensures ∙ c.name.ensures) in
    step_applied c.args.terms.free IsMergeStep _ _ _ _ _ lawful r.refines r.goes_on r.ok

pub returns-in-Ok-take-clause-behind : goal.returns-in-Ok-take-clause-behind
returns-in-Ok-take-clause-behind g c =
    is_behind c.args.net.now c.args.found.now.n.0 _ c.args.found.now.next c.requires (c.in-Ok.ensures ∙ c.name.ensures) c.args.terms.free c.take.new.net
    c.well_formed-2.ensures c.in-Ok-take.ensures.ok.applies

pub returns-clause-passes : goal.returns-clause-passes
returns-clause-passes g c =
    let r = c.in-Err-take.ensures in
    let lawful = is_step c.args.net.now c.args.found.now.n.0 _ c.args.found.now.next c.requires (c.in-Ok.ensures ∙ c.name.ensures) in
    step_unapplied c.args.terms.free IsMergeStep _ _ _ _ _ lawful r.refines r.goes_on _ r.note r.cause r.net r.journal

pub returns-in-Ok-take-clause-means : goal.returns-in-Ok-take-clause-means
returns-in-Ok-take-clause-means g c = c.in-Ok-take.ensures.means refl

pub returns-clause-means : goal.returns-clause-means
returns-clause-means g c = c.in-Err-take.ensures.means refl

-- The rule is that of the least net that saves, by its name.
use Rattle.std.proofs.Common.{◌∙◌, refl}
use Rattle.mv_pass.proofs.Greedy.{step_applied, step_unapplied}
use Rattle.mv_pass.proofs.Stepped.{stuck}
use Rattle.mv_eliminate.specs.Eliminates.{IsEliminateStep, CollapsesSome}
use Rattle.mv_eliminate.proofs.Eliminated.{saving_applies, least_step, went_into}
use Rattle.mv_eliminate.proofs.eliminating.step.Goals as goal

pub returns-in-Err-clause-passes : goal.returns-in-Err-clause-passes
returns-in-Err-clause-passes g c = stuck c.args.terms.free (CollapsesSome c.args.terms.free) (CollapsesSome c.args.terms.free) _ _ refl

pub take-requires : goal.take-requires
take-requires g c = saving_applies c.args.net.now c.args.n.0 _ (c.in-Ok.ensures ∙ c.name.ensures) c.args.terms.free c.requires.saving

pub returns-in-Ok-take-clause-passes : goal.returns-in-Ok-take-clause-passes
returns-in-Ok-take-clause-passes g c =
    let r = c.in-Ok-take.ensures in
    let lawful = least_step c.args.net.now c.args.n.0 _ (c.in-Ok.ensures ∙ c.name.ensures) c.requires in
    step_applied c.args.terms.free IsEliminateStep _ _ _ _ _ lawful r.refines r.goes_on r.ok

pub returns-in-Ok-take-clause-into : goal.returns-in-Ok-take-clause-into
returns-in-Ok-take-clause-into g c =
    went_into c.args.net.now c.args.n.0 _ (c.in-Ok.ensures ∙ c.name.ensures) c.args.terms.free c.take.new.net c.well_formed-2.ensures c.well_formed-in-Ok-take.ensures c.requires.saving c.in-Ok-take.ensures.ok.applies

pub returns-clause-passes : goal.returns-clause-passes
returns-clause-passes g c =
    let r = c.in-Err-take.ensures in
    let lawful = least_step c.args.net.now c.args.n.0 _ (c.in-Ok.ensures ∙ c.name.ensures) c.requires in
    step_unapplied c.args.terms.free IsEliminateStep _ _ _ _ _ lawful r.refines r.goes_on _ r.note r.cause r.net r.journal

pub returns-in-Ok-take-clause-means : goal.returns-in-Ok-take-clause-means
returns-in-Ok-take-clause-means g c = c.in-Ok-take.ensures.means refl

pub returns-clause-means : goal.returns-clause-means
returns-clause-means g c = c.in-Err-take.ensures.means refl

-- The rule is that of the least net to which one applies, by its name.
use Rattle.std.proofs.Common.{◌∙◌, refl, sym, ap, subst}
use Rattle.mv_entry.specs.declared.rule.Rule.{Rule}
use Rattle.mv_entry.specs.Entries.{Applied}
use Rattle.mv_pass.specs.Taking.{CanApply}
use Rattle.mv_pass.proofs.Greedy.{step_applied, step_unapplied}
use Rattle.mv_pass.proofs.Stepped.{stuck}
use Rattle.mv_rules.specs.Applies.{Applies, keeps_choices}
use Rattle.mv_sweep.specs.Sweeps.{IsSweepStep, SweepsSome}
use Rattle.mv_sweep.proofs.Swept.{way_applies, way_keeps, least_step, way_leaves}
use Rattle.mv_sweep.proofs.sweeping.step.Goals as goal

pub returns-in-Err-clause-passes : goal.returns-in-Err-clause-passes
returns-in-Err-clause-passes g c = stuck c.args.terms.free (SweepsSome c.args.terms.free) (SweepsSome c.args.terms.free) _ _ refl

pub take-requires : goal.take-requires
take-requires g c =
    subst (λ (r : Rule). CanApply c.args.terms.free r c.args.net.now) (sym c.rule_for-rule.ensures)
    (way_applies c.args.net.now c.args.found.now.n.0 _ c.well_formed-2.ensures (c.in-Ok.ensures ∙ c.name.ensures) c.args.terms.free c.args.found.now.way c.requires.way_is)

pub returns-in-Ok-take-clause-passes : goal.returns-in-Ok-take-clause-passes
returns-in-Ok-take-clause-passes g c =
    let r = c.in-Ok-take.ensures in
    let lawful =
    subst (λ (r : Rule). IsSweepStep c.args.net.now (Applied r)) (sym c.rule_for-rule.ensures)
    (least_step c.args.net.now c.args.found.now.n.0 _ c.well_formed-2.ensures (c.in-Ok.ensures ∙ c.name.ensures) c.args.found.now.way c.requires) in
    step_applied c.args.terms.free IsSweepStep _ _ _ _ _ lawful r.refines r.goes_on r.ok

pub returns-in-Ok-take-clause-around : goal.returns-in-Ok-take-clause-around
returns-in-Ok-take-clause-around g c =
    let applies = subst (λ (r : Rule). Applies c.args.terms.free r c.args.net.now c.take.new.net) c.rule_for-rule.ensures c.in-Ok-take.ensures.ok.applies in
    way_leaves c.args.net.now c.args.found.now.n.0 _ c.well_formed-2.ensures (c.in-Ok.ensures ∙ c.name.ensures) c.args.terms.free c.args.found.now.way c.requires.way_is c.take.new.net c.well_formed-in-Ok-take.ensures applies

pub returns-clause-passes : goal.returns-clause-passes
returns-clause-passes g c =
    let r = c.in-Err-take.ensures in
    let lawful =
    subst (λ (r : Rule). IsSweepStep c.args.net.now (Applied r)) (sym c.rule_for-rule.ensures)
    (least_step c.args.net.now c.args.found.now.n.0 _ c.well_formed-2.ensures (c.in-Ok.ensures ∙ c.name.ensures) c.args.found.now.way c.requires) in
    step_unapplied c.args.terms.free IsSweepStep _ _ _ _ _ lawful r.refines r.goes_on _ r.note r.cause r.net r.journal

pub returns-in-Ok-take-clause-means : goal.returns-in-Ok-take-clause-means
returns-in-Ok-take-clause-means g c = c.in-Ok-take.ensures.means (ap keeps_choices c.rule_for-rule.ensures ∙ way_keeps c.args.found.now.way _)

pub returns-clause-means : goal.returns-clause-means
returns-clause-means g c = c.in-Err-take.ensures.means (ap keeps_choices c.rule_for-rule.ensures ∙ way_keeps c.args.found.now.way _)

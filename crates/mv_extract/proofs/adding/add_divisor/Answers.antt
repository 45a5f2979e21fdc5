-- The rule that adds the net, by the fresh name.
use Rattle.std.proofs.Common.{refl, subst}
use Rattle.mv_entry.specs.declared.rule.Rule.{Rule}
use Rattle.mv_pass.specs.Courses.{Perhaps, Still, Through}
use Rattle.mv_pass.proofs.Stepped.{stuck, applied, unapplied}
use Rattle.mv_rules.specs.Applies.{Applies}
use Rattle.mv_extract.specs.Steps.{AddsDivisor}
use Rattle.mv_extract.proofs.Ready.{can_add}
use Rattle.mv_extract.proofs.Taking.{adds_so}
use Rattle.mv_extract.proofs.adding.add_divisor.Goals as goal

pub returns-in-Err-clause-passes : goal.returns-in-Err-clause-passes
returns-in-Err-clause-passes g c =
    let A = AddsDivisor c.args.terms.free c.args.divisor.now in
    stuck c.args.terms.free A (Perhaps A) c.args.net.now _ (Still (refl, refl))

pub returns-in-Err-rule_for-clause-passes : goal.returns-in-Err-rule_for-clause-passes
returns-in-Err-rule_for-clause-passes g c =
    let A = AddsDivisor c.args.terms.free c.args.divisor.now in
    stuck c.args.terms.free A (Perhaps A) c.args.net.now _ (Still (refl, refl))

pub take-requires : goal.take-requires
take-requires g c =
    let name = c.in-Ok.ensures in
    let new_name = c.add_law.ensures.fresh c.args.net.now.nets 0 _ name.fresh name.lawful name.short in
    can_add c.args.net.now c.args.terms.free _ c.args.divisor.now _ c.in-Ok-rule_for.ensures
    (c.add_law.ensures.applies c.args.net.now _ c.args.divisor.now c.well_formed-2.ensures c.requires.over new_name c.requires.room)

pub returns-in-Ok-take-clause-passes : goal.returns-in-Ok-take-clause-passes
returns-in-Ok-take-clause-passes g c =
    let A = AddsDivisor c.args.terms.free c.args.divisor.now in
    let r = c.in-Ok-take.ensures in
    applied c.args.terms.free A (Perhaps A) c.args.net.now _ c.take.new.net _ _ r.refines r.goes_on
    (adds_so c.args.terms.free c.args.net.now c.args.divisor.now _ c.take.new.net _ c.in-Ok.ensures.fresh c.in-Ok-rule_for.ensures) r.ok

pub returns-in-Ok-take-clause-comes : goal.returns-in-Ok-take-clause-comes
returns-in-Ok-take-clause-comes g c =
    let applies = subst (λ (r : Rule). Applies c.args.terms.free r c.args.net.now c.take.new.net) c.in-Ok-rule_for.ensures c.in-Ok-take.ensures.ok.applies in
    record { name = _; new_is = c.add_law.ensures.leaves c.args.net.now c.take.new.net _ c.args.divisor.now c.well_formed-2.ensures c.requires.over applies }

pub returns-clause-passes : goal.returns-clause-passes
returns-clause-passes g c =
    let A = AddsDivisor c.args.terms.free c.args.divisor.now in
    let r = c.in-Err-take.ensures in
    unapplied c.args.terms.free A (Perhaps A) c.args.net.now _ c.take.new.net _ _ r.refines r.goes_on _ (Still (refl, refl))
    (λ applies. Through (adds_so c.args.terms.free c.args.net.now c.args.divisor.now _ c.take.new.net _ c.in-Ok.ensures.fresh c.in-Ok-rule_for.ensures applies))
    r.note r.cause r.net r.journal

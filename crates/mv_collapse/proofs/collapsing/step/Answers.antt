-- The rule, where it leaves the literals no higher, or the note.
use Rattle.std.proofs.Common.{refl}
use Rattle.mv_pass.specs.Courses.{Perhaps, Still, Through}
use Rattle.mv_pass.proofs.Stepped.{stuck, applied, unapplied}
use Rattle.mv_collapse.specs.Collapses.{CollapsesNet}
use Rattle.mv_collapse.proofs.Reasons.{collapsed_so, is_rule}
use Rattle.mv_collapse.proofs.collapsing.step.Goals as goal

pub returns-in-Err-clause-passes : goal.returns-in-Err-clause-passes
returns-in-Err-clause-passes g c = stuck c.args.terms.free (CollapsesNet c.args.terms.free c.args.name.now) (Perhaps (CollapsesNet c.args.terms.free c.args.name.now)) _ _ (Still (refl, refl))

pub returns-in-Ok-take-clause-passes : goal.returns-in-Ok-take-clause-passes
returns-in-Ok-take-clause-passes g c =
    let r = c.in-Ok-take.ensures in
    let free = rw c.in-Ok-None.field-0-is at c.in-Ok-None.ensures in
    applied c.args.terms.free (CollapsesNet c.args.terms.free c.args.name.now) (Perhaps (CollapsesNet c.args.terms.free c.args.name.now)) _ _ _ _ _ r.refines r.goes_on
    (λ applies. collapsed_so c.args.terms.free c.args.name.now _ _ _ (is_rule _ _ c.in-Ok.ensures) free applies) r.ok

pub returns-in-Ok-None-clause-passes : goal.returns-in-Ok-None-clause-passes
returns-in-Ok-None-clause-passes g c =
    let r = c.in-Err-take.ensures in
    let free = rw c.in-Ok-None.field-0-is at c.in-Ok-None.ensures in
    unapplied c.args.terms.free (CollapsesNet c.args.terms.free c.args.name.now) (Perhaps (CollapsesNet c.args.terms.free c.args.name.now)) _ _ _ _ _ r.refines r.goes_on _ (Still (refl, refl))
    (λ applies. Through (collapsed_so c.args.terms.free c.args.name.now _ _ _ (is_rule _ _ c.in-Ok.ensures) free applies)) r.note r.cause r.net r.journal

pub returns-clause-passes : goal.returns-clause-passes
returns-clause-passes g c = stuck c.args.terms.free (CollapsesNet c.args.terms.free c.args.name.now) (Perhaps (CollapsesNet c.args.terms.free c.args.name.now)) _ _ (Still (refl, refl))

pub returns-in-Ok-take-clause-means : goal.returns-in-Ok-take-clause-means
returns-in-Ok-take-clause-means g c = c.in-Ok-take.ensures.means refl

pub returns-in-Ok-None-clause-means : goal.returns-in-Ok-None-clause-means
returns-in-Ok-None-clause-means g c = c.in-Err-take.ensures.means refl

-- The rule divides the table, or no cover of it has a quotient.
use Rattle.std.proofs.Common.{refl}
use Rattle.mv_pass.specs.Courses.{Perhaps, Still, Through}
use Rattle.mv_pass.proofs.Stepped.{stuck, idle, applied, unapplied}
use Rattle.mv_extract.specs.Steps.{DividesNet, LetBe}
use Rattle.mv_extract.proofs.Ready.{can_divide, divides_so}
use Rattle.mv_extract.proofs.dividing.divide_net.Goals as goal

pub returns-in-Ok-None-clause-passes : goal.returns-in-Ok-None-clause-passes
returns-in-Ok-None-clause-passes g c =
    let V = DividesNet c.args.terms.free c.args.divisor.now c.args.d c.args.n.0 in
    idle c.args.terms.free V (Perhaps V) c.args.net.now _ (LetBe (rw c.in-Ok-None.field-0-is at c.in-Ok-None.ensures) (refl, refl))

pub returns-in-Err-clause-passes : goal.returns-in-Err-clause-passes
returns-in-Err-clause-passes g c =
    let V = DividesNet c.args.terms.free c.args.divisor.now c.args.d c.args.n.0 in
    stuck c.args.terms.free V (Perhaps V) c.args.net.now _ (Still (refl, refl))

pub take-requires : goal.take-requires
take-requires g c =
    let is = rw c.in-Ok-Some.field-0-is at c.in-Ok-Some.ensures in
    can_divide c.args.net.now c.args.terms.free c.args.n.0 is.by is.table is.lines _ is.rule_is
    (c.divide_law.ensures.applies c.args.net.now c.args.n c.args.d is.by c.args.divisor.now is.table is.lines c.well_formed-2.ensures is.division)

pub returns-in-Ok-clause-passes : goal.returns-in-Ok-clause-passes
returns-in-Ok-clause-passes g c =
    let is = rw c.in-Ok-Some.field-0-is at c.in-Ok-Some.ensures in
    let V = DividesNet c.args.terms.free c.args.divisor.now c.args.d c.args.n.0 in
    let r = c.in-Ok.ensures in
    applied c.args.terms.free V (Perhaps V) c.args.net.now _ c.take.new.net _ _ r.refines r.goes_on
    (divides_so c.args.terms.free c.args.net.now c.args.divisor.now c.args.n c.args.d c.take.new.net _ is) r.ok

pub returns-clause-passes : goal.returns-clause-passes
returns-clause-passes g c =
    let is = rw c.in-Ok-Some.field-0-is at c.in-Ok-Some.ensures in
    let V = DividesNet c.args.terms.free c.args.divisor.now c.args.d c.args.n.0 in
    let r = c.in-Err-take.ensures in
    unapplied c.args.terms.free V (Perhaps V) c.args.net.now _ c.take.new.net _ _ r.refines r.goes_on _ (Still (refl, refl))
    (λ applies. Through (divides_so c.args.terms.free c.args.net.now c.args.divisor.now c.args.n c.args.d c.take.new.net _ is applies))
    r.note r.cause r.net r.journal

-- The rule is that of the net, whose table allows nothing somewhere and has none but plain ones above it.
use Rattle.std.proofs.Common.{refl, sym, subst}
use Rattle.mv_entry.specs.declared.rule.Rule.{Rule}
use Rattle.mv_pass.specs.Courses.{Perhaps, Still, Through}
use Rattle.mv_pass.specs.Taking.{CanApply}
use Rattle.mv_pass.proofs.Stepped.{stuck, applied, unapplied}
use Rattle.mv_fill.specs.Fills.{FillsNet}
use Rattle.mv_fill.proofs.Unfilled.{unfilled_held, can_fill, keeps_none, filled_so, applied_keeps, halted_keeps}
use Rattle.mv_fill.proofs.filling.fill_one.Goals as goal

pub rule_for-requires : goal.rule_for-requires
rule_for-requires g c = unfilled_held c.args.net.now.nets c.args.n.0 c.requires.unfilled

pub take-requires : goal.take-requires
take-requires g c =
    subst (λ (r : Rule). CanApply c.args.terms.free r c.args.net.now) (sym c.in-Ok.ensures)
    (can_fill c.args.terms.free c.args.net.now c.args.n.0 c.well_formed-2.ensures c.requires.unfilled c.requires.free c.requires.plain)

pub returns-in-Err : goal.returns-in-Err
returns-in-Err g c = record {
  keeps = keeps_none c.args.net.now.nets;
  passes = stuck c.args.terms.free (FillsNet c.args.terms.free c.args.n.0) (Perhaps (FillsNet c.args.terms.free c.args.n.0)) c.args.net.now _ (Still (refl, refl));
}

pub returns-in-Ok-take : goal.returns-in-Ok-take
returns-in-Ok-take g c = record {
  keeps = applied_keeps c.args.terms.free c.args.net.now c.args.n.0 c.take.new.net _ c.well_formed-2.ensures c.requires.unfilled c.in-Ok.ensures c.in-Ok-take.ensures.ok.applies;
  passes =
      applied c.args.terms.free (FillsNet c.args.terms.free c.args.n.0) (Perhaps (FillsNet c.args.terms.free c.args.n.0)) c.args.net.now _ c.take.new.net _ _ c.in-Ok-take.ensures.refines c.in-Ok-take.ensures.goes_on
      (filled_so c.args.terms.free c.args.net.now c.args.n.0 c.take.new.net _ c.requires.unfilled c.in-Ok.ensures) c.in-Ok-take.ensures.ok;
}

pub returns : goal.returns
returns g c = record {
  keeps = halted_keeps c.args.terms.free c.args.net.now c.args.n.0 c.take.new.net _ _ _ c.well_formed-2.ensures c.requires.unfilled c.in-Ok.ensures _ c.in-Err-take.ensures.note c.in-Err-take.ensures.net;
  passes =
      unapplied c.args.terms.free (FillsNet c.args.terms.free c.args.n.0) (Perhaps (FillsNet c.args.terms.free c.args.n.0)) c.args.net.now _ c.take.new.net _ _ c.in-Err-take.ensures.refines c.in-Err-take.ensures.goes_on _ (Still (refl, refl))
      (λ applies. Through (filled_so c.args.terms.free c.args.net.now c.args.n.0 c.take.new.net _ c.requires.unfilled c.in-Ok.ensures applies))
      c.in-Err-take.ensures.note c.in-Err-take.ensures.cause c.in-Err-take.ensures.net c.in-Err-take.ensures.journal;
}

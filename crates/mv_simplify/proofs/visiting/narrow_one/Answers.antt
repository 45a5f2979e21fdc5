-- The rule is that of the net and the table.
use Rattle.std.proofs.Common.{is_some, refl, sym, subst, ap}
use Rattle.mv_entry.specs.declared.rule.Rule.{Rule}
use Rattle.mv_pass.specs.Courses.{Perhaps, Still, Through}
use Rattle.mv_pass.specs.Taking.{CanApply}
use Rattle.mv_pass.proofs.Stepped.{stuck, applied, unapplied}
use Rattle.mv_rules.specs.Applies.{IsAtHand}
use Rattle.mv_simplify.specs.Simplifying.{Visit}
use Rattle.mv_simplify.proofs.Taking.{at_hand, can_narrow, lines_held, narrowed_keeps, narrowed_so}
use Rattle.mv_simplify.proofs.visiting.narrow_one.Goals as goal

pub rule_for-requires : goal.rule_for-requires
rule_for-requires g c = record {
  tabled = ap (λ t. is_some t) c.requires.new.table_is;
  held = lines_held c.args.asked c.args.net.now c.args.n.0 c.args.table.now c.args.flexibility.now c.well_formed-2.ensures c.requires.new;
}

pub take_with-requires : goal.take_with-requires
take_with-requires g c = record {
  can =
      subst (λ (r : Rule). CanApply c.args.asked.terms.free r c.args.net.now) (sym c.in-Ok.ensures)
      (can_narrow c.args.asked c.args.net.now c.args.n.0 c.args.table.now c.args.flexibility.now c.well_formed-2.ensures c.requires.new c.requires.within);
  hand =
      subst (λ (r : Rule). IsAtHand c.args.net.now r c.args.asked.terms.budget c.args.flexibility.now) (sym c.in-Ok.ensures)
      (at_hand c.args.asked c.args.net.now c.args.n.0 c.args.table.now c.args.flexibility.now c.well_formed-2.ensures c.requires.new);
}

pub returns-in-Err : goal.returns-in-Err
returns-in-Err g c = record {
  keeps = tt;
  passes = stuck c.args.asked.terms.free (Visit c.args.asked c.args.n.0) (Perhaps (Visit c.args.asked c.args.n.0)) c.args.net.now _ (Still (refl, refl));
}

pub returns-in-Ok-take_with : goal.returns-in-Ok-take_with
returns-in-Ok-take_with g c = record {
  keeps = narrowed_keeps c.args.asked c.args.net.now c.args.n.0 c.args.table.now c.args.flexibility.now c.well_formed-2.ensures c.requires.new c.take_with.new.net _ c.in-Ok.ensures c.in-Ok-take_with.ensures.ok.applies;
  passes =
      applied c.args.asked.terms.free (Visit c.args.asked c.args.n.0) (Perhaps (Visit c.args.asked c.args.n.0)) c.args.net.now _ c.take_with.new.net _ _ c.in-Ok-take_with.ensures.refines c.in-Ok-take_with.ensures.goes_on
      (narrowed_so c.args.asked c.args.net.now c.args.n.0 c.args.table.now c.args.flexibility.now c.well_formed-2.ensures c.requires.new c.take_with.new.net _ c.in-Ok.ensures) c.in-Ok-take_with.ensures.ok;
}

pub returns : goal.returns
returns g c = record {
  keeps = tt;
  passes =
      unapplied c.args.asked.terms.free (Visit c.args.asked c.args.n.0) (Perhaps (Visit c.args.asked c.args.n.0)) c.args.net.now _ c.take_with.new.net _ _ c.in-Err-take_with.ensures.refines c.in-Err-take_with.ensures.goes_on _ (Still (refl, refl))
      (λ applies. Through (narrowed_so c.args.asked c.args.net.now c.args.n.0 c.args.table.now c.args.flexibility.now c.well_formed-2.ensures c.requires.new c.take_with.new.net _ c.in-Ok.ensures applies))
      c.in-Err-take_with.ensures.note c.in-Err-take_with.ensures.cause c.in-Err-take_with.ensures.net c.in-Err-take_with.ensures.journal;
}

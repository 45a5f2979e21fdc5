-- The rule is that of the net and the table.
use Rattle.std.proofs.Common.{refl, sym, subst}
use Rattle.mv_entry.specs.declared.rule.Rule.{Rule}
use Rattle.mv_pass.specs.Courses.{Perhaps, Still, Through}
use Rattle.mv_pass.specs.Taking.{CanApply}
use Rattle.mv_pass.proofs.Stepped.{stuck, applied, unapplied}
use Rattle.mv_rules.specs.Applies.{LiesWithin}
use Rattle.mv_visit.specs.Visits.{Lessens}
use Rattle.mv_visit.proofs.Lesser.{can_lessen, lessened, lies_within, lines_held, same_partial, tabled}
use Rattle.mv_visit.proofs.lessening.give.Goals as goal

pub narrowing-requires : goal.narrowing-requires
narrowing-requires g c = record {
  tabled = tabled c.args.net.now c.args.n.0 c.args.table.now c.well_formed-2.ensures c.requires.new;
  held = lines_held c.args.net.now c.args.n.0 c.args.table.now c.well_formed-2.ensures c.requires.new;
}

pub take_within-requires : goal.take_within-requires
take_within-requires g c = record {
  can =
      subst (λ (r : Rule). CanApply c.args.terms.free r c.args.net.now) (sym c.in-Ok.ensures)
      (can_lessen c.args.net.now c.args.n.0 c.args.table.now c.well_formed-2.ensures c.requires.new c.args.terms.free);
  within =
      subst (λ (r : Rule). LiesWithin c.args.net.now r) (sym c.in-Ok.ensures)
      (lies_within c.args.net.now c.args.n.0 c.args.table.now c.well_formed-2.ensures c.requires.new);
  right = c.requires.right;
}

pub returns-in-Err : goal.returns-in-Err
returns-in-Err g c = record {
  right = tt;
  passes = stuck c.args.terms.free (Lessens c.args.n.0 c.args.table.now) (Perhaps (Lessens c.args.n.0 c.args.table.now)) c.args.net.now _ (Still (refl, refl));
}

pub returns-in-Ok-take_within : goal.returns-in-Ok-take_within
returns-in-Ok-take_within g c = record {
  right = same_partial c.args.net.now c.args.n.0 c.args.table.now c.well_formed-2.ensures c.requires.new c.args.terms.free c.take_within.new.net _ c.in-Ok.ensures c.in-Ok-take_within.ensures.ok.applies c.args.partial.now c.requires.right;
  passes =
      applied c.args.terms.free (Lessens c.args.n.0 c.args.table.now) (Perhaps (Lessens c.args.n.0 c.args.table.now)) c.args.net.now _ c.take_within.new.net _ _ c.in-Ok-take_within.ensures.refines c.in-Ok-take_within.ensures.goes_on
      (lessened c.args.net.now c.args.n.0 c.args.table.now c.well_formed-2.ensures c.requires.new c.args.terms.free c.take_within.new.net _ c.in-Ok.ensures) c.in-Ok-take_within.ensures.ok;
}

pub returns : goal.returns
returns g c = record {
  right = tt;
  passes =
      unapplied c.args.terms.free (Lessens c.args.n.0 c.args.table.now) (Perhaps (Lessens c.args.n.0 c.args.table.now)) c.args.net.now _ c.take_within.new.net _ _ c.in-Err-take_within.ensures.refines c.in-Err-take_within.ensures.goes_on _ (Still (refl, refl))
      (λ applies. Through (lessened c.args.net.now c.args.n.0 c.args.table.now c.well_formed-2.ensures c.requires.new c.args.terms.free c.take_within.new.net _ c.in-Ok.ensures applies))
      c.in-Err-take_within.ensures.note c.in-Err-take_within.ensures.cause c.in-Err-take_within.ensures.net c.in-Err-take_within.ensures.journal;
}

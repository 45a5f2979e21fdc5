-- Where it isn't known from which nets on some table isn't total nothing came. What came is a course, by which the network may take
-- the place of the old one.
use Rattle.std.proofs.Common.{false}
use Rattle.mv_base.proofs.Meanings.{Refines-refl}
use Rattle.mv_net.specs.Allowed.{of_net}
use Rattle.mv_pass.proofs.Stepped.{stuck}
use Rattle.mv_choose.specs.Choices.{Determinizing, DeterminizesAll, DeterminizesSome}
use Rattle.mv_visit.proofs.Visited.{not_begun, passes_refines}
use Rattle.mv_choose.proofs.choices.determinize_tables.Goals as goal

pub returns-in-Err : goal.returns-in-Err
returns-in-Err g c = record {
  passes = stuck c.args.terms.free DeterminizesAll DeterminizesSome c.args.net.now _ (not_begun Determinizing c.args.net.now);
  refines = Refines-refl false (of_net c.args.net.now);
}

pub returns-in-Ok-visit_each-clause-refines : goal.returns-in-Ok-visit_each-clause-refines
returns-in-Ok-visit_each-clause-refines g c = passes_refines Determinizing c.args.terms.free c.args.net.now c.visit_each.new.net _ _ _ c.well_formed-2.ensures c.in-Ok-visit_each.ensures

pub returns-clause-refines : goal.returns-clause-refines
returns-clause-refines g c = passes_refines Determinizing c.args.terms.free c.args.net.now c.visit_each.new.net _ _ _ c.well_formed-2.ensures c.in-Err-visit_each.ensures

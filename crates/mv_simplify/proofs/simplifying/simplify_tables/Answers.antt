-- Without marks nothing came. What came is a course, by which the network may take the place of the old one.
use Rattle.std.proofs.Common.{false}
use Rattle.mv_base.proofs.Meanings.{Refines-refl}
use Rattle.mv_net.specs.Allowed.{of_net}
use Rattle.mv_pass.proofs.Stepped.{stuck}
use Rattle.mv_simplify.specs.Simplifies.{SimplifiesAll, SimplifiesSome}
use Rattle.mv_simplify.proofs.Simplified.{not_begun, passes_refines}
use Rattle.mv_simplify.proofs.simplifying.simplify_tables.Goals as goal

pub returns-in-Err : goal.returns-in-Err
returns-in-Err g c =
    let asked = c.args.asked in
    record {
      passes = stuck asked.terms.free (SimplifiesAll asked.terms asked.down asked.up) (SimplifiesSome asked.terms asked.down asked.up) c.args.net.now _ (not_begun asked.terms asked.down asked.up c.args.net.now);
      refines = Refines-refl false (of_net c.args.net.now);
    }

pub returns-in-Ok-visit_each-clause-refines : goal.returns-in-Ok-visit_each-clause-refines
returns-in-Ok-visit_each-clause-refines g c =
    passes_refines c.args.asked.terms c.args.asked.down c.args.asked.up c.args.net.now c.visit_each.new.net _ _ _ c.well_formed-2.ensures c.in-Ok-visit_each.ensures

pub returns-clause-refines : goal.returns-clause-refines
returns-clause-refines g c =
    passes_refines c.args.asked.terms c.args.asked.down c.args.asked.up c.args.net.now c.visit_each.new.net _ _ _ c.well_formed-2.ensures c.in-Err-visit_each.ensures

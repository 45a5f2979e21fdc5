-- The beginning, the visits and the end, as far as they came.
use Rattle.std.proofs.Common.{false}
use Rattle.mv_base.proofs.Meanings.{Refines-refl}
use Rattle.mv_entry.specs.declared.note.Command.TheVariants.{Simplify}
use Rattle.mv_net.specs.Allowed.{of_net}
use Rattle.mv_pass.proofs.Passed.{unbegun, halted, ended}
use Rattle.mv_simplify.specs.Simplifies.{SimplifiesAll, SimplifiesSome}
use Rattle.mv_simplify.proofs.Simplified.{not_begun}
use Rattle.mv_simplify.proofs.simplifying.simplify.Goals as goal

pub returns-in-Err : goal.returns-in-Err
returns-in-Err g c =
    let terms = c.args.terms in
    record {
      passes = unbegun terms.free (SimplifiesAll terms c.args.d c.args.u) (SimplifiesSome terms c.args.d c.args.u) (Simplify c.args.d c.args.u) _ _ _ _ (not_begun terms c.args.d c.args.u c.args.net.now) c.in-Err.ensures;
      refines = Refines-refl false (of_net c.args.net.now);
    }

pub returns-in-Ok-simplify_tables : goal.returns-in-Ok-simplify_tables
returns-in-Ok-simplify_tables g c =
    let terms = c.args.terms in
    record {
      passes = ended terms.free (SimplifiesAll terms c.args.d c.args.u) (SimplifiesSome terms c.args.d c.args.u) (Simplify c.args.d c.args.u) _ _ _ c.in-Ok.ensures _ _ c.in-Ok-simplify_tables.ensures.passes _ _ c.end.ensures;
      refines = c.in-Ok-simplify_tables.ensures.refines;
    }

pub returns-in-Err-simplify_tables : goal.returns-in-Err-simplify_tables
returns-in-Err-simplify_tables g c =
    let terms = c.args.terms in
    record {
      passes = halted terms.free (SimplifiesAll terms c.args.d c.args.u) (SimplifiesSome terms c.args.d c.args.u) (Simplify c.args.d c.args.u) _ _ _ c.in-Ok.ensures _ _ _ c.in-Err-simplify_tables.ensures.passes;
      refines = c.in-Err-simplify_tables.ensures.refines;
    }

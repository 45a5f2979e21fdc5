-- The beginning, the steps and the end, as far as they came.
use Rattle.std.specs.Prelude.{false}
use Rattle.mv_base.proofs.Meanings.{Refines-refl, Refines-from_same}
use Rattle.mv_entry.specs.declared.note.Command.TheVariants.{Eliminate}
use Rattle.mv_pass.proofs.Passed.{unbegun, halted, ended}
use Rattle.mv_eliminate.specs.Eliminates.{Eliminates, EliminatesAll}
use Rattle.mv_eliminate.proofs.Eliminated.{not_begun}
use Rattle.mv_eliminate.proofs.eliminating.eliminate.Goals as goal

pub returns-in-Err : goal.returns-in-Err
returns-in-Err g c = record {
  passes = unbegun c.args.terms.free (EliminatesAll c.args.terms.free) (Eliminates c.args.terms.free) Eliminate _ _ _ _ (not_begun _ _) c.in-Err.ensures;
  refines = Refines-refl false _;
}

pub returns-in-Ok-collapse_and_note : goal.returns-in-Ok-collapse_and_note
returns-in-Ok-collapse_and_note g c = record {
  passes = ended c.args.terms.free (EliminatesAll c.args.terms.free) (Eliminates c.args.terms.free) Eliminate _ _ _ c.in-Ok.ensures _ _ c.in-Ok-collapse_and_note.ensures.passes _ _ c.end.ensures;
  refines = Refines-from_same false _ _ c.in-Ok-collapse_and_note.ensures.means;
}

pub returns-in-Err-collapse_and_note : goal.returns-in-Err-collapse_and_note
returns-in-Err-collapse_and_note g c = record {
  passes = halted c.args.terms.free (EliminatesAll c.args.terms.free) (Eliminates c.args.terms.free) Eliminate _ _ _ c.in-Ok.ensures _ _ _ c.in-Err-collapse_and_note.ensures.passes;
  refines = Refines-from_same false _ _ c.in-Err-collapse_and_note.ensures.means;
}

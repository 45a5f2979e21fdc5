-- The beginning, the visits and the end, as far as they came.
use Rattle.std.proofs.Common.{false}
use Rattle.mv_base.proofs.Meanings.{Refines-refl}
use Rattle.mv_entry.specs.declared.note.Command.TheVariants.{Determinize}
use Rattle.mv_net.specs.Allowed.{of_net}
use Rattle.mv_pass.proofs.Passed.{unbegun, halted, ended}
use Rattle.mv_choose.specs.Choices.{Determinizing, DeterminizesAll, DeterminizesSome}
use Rattle.mv_visit.proofs.Visited.{not_begun}
use Rattle.mv_choose.proofs.choices.determinize.Goals as goal

pub returns-in-Err : goal.returns-in-Err
returns-in-Err g c = record {
  passes = unbegun c.args.terms.free DeterminizesAll DeterminizesSome Determinize _ _ _ _ (not_begun Determinizing c.args.net.now) c.in-Err.ensures;
  refines = Refines-refl false (of_net c.args.net.now);
}

pub returns-in-Ok-determinize_tables : goal.returns-in-Ok-determinize_tables
returns-in-Ok-determinize_tables g c = record {
  passes = ended c.args.terms.free DeterminizesAll DeterminizesSome Determinize _ _ _ c.in-Ok.ensures _ _ c.in-Ok-determinize_tables.ensures.passes _ _ c.end.ensures;
  refines = c.in-Ok-determinize_tables.ensures.refines;
}

pub returns-in-Err-determinize_tables : goal.returns-in-Err-determinize_tables
returns-in-Err-determinize_tables g c = record {
  passes = halted c.args.terms.free DeterminizesAll DeterminizesSome Determinize _ _ _ c.in-Ok.ensures _ _ _ c.in-Err-determinize_tables.ensures.passes;
  refines = c.in-Err-determinize_tables.ensures.refines;
}

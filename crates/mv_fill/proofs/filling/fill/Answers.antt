-- The beginning, the visits and the end, as far as they came.
use Rattle.mv_entry.specs.declared.note.Command.TheVariants.{Fill}
use Rattle.mv_pass.proofs.Passed.{unbegun, halted, ended}
use Rattle.mv_fill.specs.Fills.{FillsAll, FillsTables}
use Rattle.mv_fill.proofs.Filled.{not_begun}
use Rattle.mv_fill.proofs.filling.fill.Goals as goal

pub returns-in-Err : goal.returns-in-Err
returns-in-Err g c = record {
  passes = unbegun c.args.terms.free (FillsAll c.args.terms.free) (FillsTables c.args.terms.free) Fill _ _ _ _ (not_begun _ _) c.in-Err.ensures;
}

pub returns-in-Ok-fill_tables : goal.returns-in-Ok-fill_tables
returns-in-Ok-fill_tables g c = record {
  passes = ended c.args.terms.free (FillsAll c.args.terms.free) (FillsTables c.args.terms.free) Fill _ _ _ c.in-Ok.ensures _ _ c.in-Ok-fill_tables.ensures _ _ c.end.ensures;
}

pub returns-in-Err-fill_tables : goal.returns-in-Err-fill_tables
returns-in-Err-fill_tables g c = record {
  passes = halted c.args.terms.free (FillsAll c.args.terms.free) (FillsTables c.args.terms.free) Fill _ _ _ c.in-Ok.ensures _ _ _ c.in-Err-fill_tables.ensures;
}

-- The beginning, the merges and the end, as far as they came.
use Rattle.std.proofs.Common.{false, refl}
use Rattle.mv_base.proofs.Meanings.{Refines-refl, Refines-from_same}
use Rattle.mv_entry.specs.declared.note.Command.TheVariants.{Merge}
use Rattle.mv_pass.proofs.Passed.{unbegun, halted, ended}
use Rattle.mv_merge.specs.Merges.{MergesAll, MergesSome}
use Rattle.mv_merge.proofs.merging.merge.Goals as goal

pub returns-in-Err : goal.returns-in-Err
returns-in-Err g c = record {
  passes = unbegun c.args.terms.free (MergesAll c.args.terms.free) (MergesSome c.args.terms.free) Merge _ _ _ _ refl c.in-Err.ensures;
  refines = Refines-refl false _;
}

pub returns-in-Ok-merge_each : goal.returns-in-Ok-merge_each
returns-in-Ok-merge_each g c = record {
  passes = ended c.args.terms.free (MergesAll c.args.terms.free) (MergesSome c.args.terms.free) Merge _ _ _ c.in-Ok.ensures _ _ c.in-Ok-merge_each.ensures.passes _ _ c.end.ensures;
  refines = Refines-from_same false _ _ c.in-Ok-merge_each.ensures.means;
}

pub returns-in-Err-merge_each : goal.returns-in-Err-merge_each
returns-in-Err-merge_each g c = record {
  passes = halted c.args.terms.free (MergesAll c.args.terms.free) (MergesSome c.args.terms.free) Merge _ _ _ c.in-Ok.ensures _ _ _ c.in-Err-merge_each.ensures.passes;
  refines = Refines-from_same false _ _ c.in-Err-merge_each.ensures.means;
}

-- The beginning, the nets that went and the end, as far as they came.
use Rattle.std.proofs.Common.{false, refl}
use Rattle.mv_base.proofs.Meanings.{Refines-refl, Refines-from_same}
use Rattle.mv_entry.specs.declared.note.Command.TheVariants.{Drop}
use Rattle.mv_pass.proofs.Passed.{unbegun, halted, ended}
use Rattle.mv_sweep.specs.Drops.{DropsAll, DropsSome}
use Rattle.mv_sweep.proofs.unread.remove_unread.Goals as goal

pub returns-in-Err : goal.returns-in-Err
returns-in-Err g c = record {
  passes = unbegun c.args.terms.free (DropsAll c.args.terms.free) (DropsSome c.args.terms.free) Drop _ _ _ _ refl c.in-Err.ensures;
  refines = Refines-refl false _;
}

pub returns-in-Ok-remove_each : goal.returns-in-Ok-remove_each
returns-in-Ok-remove_each g c = record {
  passes = ended c.args.terms.free (DropsAll c.args.terms.free) (DropsSome c.args.terms.free) Drop _ _ _ c.in-Ok.ensures _ _ c.in-Ok-remove_each.ensures.passes _ _ c.end.ensures;
  refines = Refines-from_same false _ _ c.in-Ok-remove_each.ensures.means;
}

pub returns-in-Err-remove_each : goal.returns-in-Err-remove_each
returns-in-Err-remove_each g c = record {
  passes = halted c.args.terms.free (DropsAll c.args.terms.free) (DropsSome c.args.terms.free) Drop _ _ _ c.in-Ok.ensures _ _ _ c.in-Err-remove_each.ensures.passes;
  refines = Refines-from_same false _ _ c.in-Err-remove_each.ensures.means;
}

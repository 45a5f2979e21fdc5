-- The beginning, the rules and the end, as far as they came.
use Rattle.std.proofs.Common.{false, refl}
use Rattle.mv_base.proofs.Meanings.{Refines-refl, Refines-from_same}
use Rattle.mv_entry.specs.declared.note.Command.TheVariants.{Sweep}
use Rattle.mv_pass.proofs.Passed.{unbegun, halted, ended}
use Rattle.mv_sweep.specs.Sweeps.{SweepsAll, SweepsSome}
use Rattle.mv_sweep.proofs.sweeping.sweep.Goals as goal

pub returns-in-Err : goal.returns-in-Err
returns-in-Err g c = record {
  passes = unbegun c.args.terms.free (SweepsAll c.args.terms.free) (SweepsSome c.args.terms.free) Sweep _ _ _ _ refl c.in-Err.ensures;
  refines = Refines-refl false _;
}

pub returns-in-Ok-sweep_each : goal.returns-in-Ok-sweep_each
returns-in-Ok-sweep_each g c = record {
  passes = ended c.args.terms.free (SweepsAll c.args.terms.free) (SweepsSome c.args.terms.free) Sweep _ _ _ c.in-Ok.ensures _ _ c.in-Ok-sweep_each.ensures.passes _ _ c.end.ensures;
  refines = Refines-from_same false _ _ c.in-Ok-sweep_each.ensures.means;
}

pub returns-in-Err-sweep_each : goal.returns-in-Err-sweep_each
returns-in-Err-sweep_each g c = record {
  passes = halted c.args.terms.free (SweepsAll c.args.terms.free) (SweepsSome c.args.terms.free) Sweep _ _ _ c.in-Ok.ensures _ _ _ c.in-Err-sweep_each.ensures.passes;
  refines = Refines-from_same false _ _ c.in-Err-sweep_each.ensures.means;
}

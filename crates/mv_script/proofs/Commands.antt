-- A lawful command runs.
use Rattle.std.proofs.Common.{◌≡◌, true, nat_le, refl}
use Rattle.mv_base.specs.declared.limits.TheConstants.{MAX_WINDOW_STEPS}
use Rattle.std.proofs.lemmas.Bool.{and_from, and_parts, leb-true}
use Rattle.mv_entry.specs.declared.note.Command.{Command}
use Rattle.mv_entry.specs.declared.note.Command.TheVariants.{Drop, Sweep, Eliminate, Collapse, Kernel, Cube, Simplify, Merge, Default, Determinize, Encode, Fill}
use Rattle.mv_entry.specs.Entries.{is_visible_name}
use Rattle.mv_script.specs.Commands.{is_lawful, IsCommand}

pub lawful_runs : (c : Command) → is_lawful c ≡ true → IsCommand c
lawful_runs Drop h = record { names = record { each = refl }; steps = tt }
lawful_runs Sweep h = record { names = record { each = refl }; steps = tt }
lawful_runs Eliminate h = record { names = record { each = refl }; steps = tt }
lawful_runs (Collapse net) h = record { names = record { each = and_from (is_visible_name net) true h refl }; steps = tt }
lawful_runs Kernel h = record { names = record { each = refl }; steps = tt }
lawful_runs Cube h = record { names = record { each = refl }; steps = tt }
lawful_runs (Simplify down up) h =
    let few = and_parts (nat_le down MAX_WINDOW_STEPS) (nat_le up MAX_WINDOW_STEPS) h in
    record { names = record { each = refl }; steps = (leb-true down MAX_WINDOW_STEPS few.0, leb-true up MAX_WINDOW_STEPS few.1) }
lawful_runs Merge h = record { names = record { each = refl }; steps = tt }
lawful_runs Default h = record { names = record { each = refl }; steps = tt }
lawful_runs Determinize h = record { names = record { each = refl }; steps = tt }
lawful_runs Encode h = record { names = record { each = refl }; steps = tt }
lawful_runs Fill h = record { names = record { each = refl }; steps = tt }

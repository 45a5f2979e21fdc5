-- The words ask for a task, and it is done; a network that is asked for has a lawful size. Where the words give nothing, no task is begun.
use Rattle.std.proofs.Common.{[], inl, refl}
use Rattle.mv_task.specs.Ends.{Short, Worked, Own}
use Rattle.mv_command_line.proofs.Sizes.{sizes}
use Rattle.mv_run.proofs.running.perform.Goals as goal

pub work-requires-clause-least : goal.work-requires-clause-least
work-requires-clause-least g c = (sizes _ _ (rw c.in-Ok-Work.field-0-is at c.in-Ok-Work.ensures)).0

pub work-requires-clause-most : goal.work-requires-clause-most
work-requires-clause-most g c = (sizes _ _ (rw c.in-Ok-Work.field-0-is at c.in-Ok-Work.ensures)).1

pub returns-in-Ok-Opt-clause-does : goal.returns-in-Ok-Opt-clause-does
returns-in-Ok-Opt-clause-does g c =
    let asked = rw c.in-Ok-Opt.field-0-is at c.in-Ok-Opt.ensures in
    rw asked (rw (c.format-format.ensures, c.terms-terms.ensures) at c.optimise.ensures)

pub returns-in-Ok-Check-clause-does : goal.returns-in-Ok-Check-clause-does
returns-in-Ok-Check-clause-does g c =
    let asked = rw c.in-Ok-Check.field-0-is at c.in-Ok-Check.ensures in
    rw asked (rw (c.format-format-in-Ok-Check.ensures, c.terms-terms-in-Ok-Check.ensures) at c.check.ensures)

pub returns-in-Ok-Work-clause-does : goal.returns-in-Ok-Work-clause-does
returns-in-Ok-Work-clause-does g c =
    let asked = rw c.in-Ok-Work.field-0-is at c.in-Ok-Work.ensures in
    rw asked (rw c.terms.ensures at c.work.ensures)

pub returns-in-Ok-Trace-clause-does : goal.returns-in-Ok-Trace-clause-does
returns-in-Ok-Trace-clause-does g c =
    let asked = rw c.in-Ok-Trace.field-0-is at c.in-Ok-Trace.ensures in
    rw asked c.trace.ensures

pub returns-in-Err-Refused-clause-does : goal.returns-in-Err-Refused-clause-does
returns-in-Err-Refused-clause-does g c =
    let none = rw c.in-Err-Refused.field-0-is at c.in-Err-Refused.ensures in
    rw none (Worked [] (record { taken = tt; last = tt; begun = refl }) (Own refl refl _ (refl, refl) c.tell.ensures))

pub returns-in-Err-Memory-clause-does : goal.returns-in-Err-Memory-clause-does
returns-in-Err-Memory-clause-does g c = Short refl (inl refl) refl c.tell-in-Err-Memory.ensures

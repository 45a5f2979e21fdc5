-- How a part of a run answers: a step, a command, or some of a script.
use Rattle.std.specs.Prelude.{◌≡◌, Bool, Result, Err, OnOk}
use Rattle.mv_base.specs.Meaning.{Refines}
use Rattle.mv_base.specs.Outside.{Rose}
use Rattle.mv_entry.specs.Tallies.{Journaled}
use Rattle.mv_net.specs.declared.parts.NetParts.{NetParts}
use Rattle.mv_net.specs.Allowed.{of_net}
use Rattle.mv_pass.specs.declared.stop.Stop.{Stop}
use Rattle.mv_pass.specs.declared.stop.Stop.TheVariants.{Note, Memory}
use Rattle.mv_pass.specs.Courses.{Course}
use Rattle.mv_pass.specs.Taking.{Took, TookPart, GoesOn}

-- at Ok it ran whole, and the journal took its entries; stopped for want of memory, the journal
-- took the entries that came; stopped at an entry that the journal couldn't take, it gained some
-- first part of their text, and its count of faults rose. The network that is left may always take
-- the place of the old one, where free under values where that one allows some choice
pub record Passes (free : Bool) (Whole Stops : Course) (old new : NetParts)
    (journal journal' : Journaled) (result : Result (Unit {0}) Stop) : Type 0 where
  pub ok : OnOk result (Took (λ entries. Whole old entries new) journal journal')
  pub memory : result ≡ Err Memory → Took (λ entries. Stops old entries new) journal journal'
  pub note : result ≡ Err Note → TookPart (λ entries. Stops old entries new) journal journal'
  pub cause : result ≡ Err Note → Rose journal.written.faults journal'.written.faults
  pub refines : Refines free (of_net new) (of_net old)
  pub goes_on : GoesOn journal journal'

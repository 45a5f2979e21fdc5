-- How a command ends behind all its steps.
use Rattle.std.specs.Prelude.{◌≡◌, ◌<◌, ◌^◌, Result, Ok, Err}
use Rattle.mv_base.specs.declared.outside.Failed.{Failed}
use Rattle.mv_entry.specs.declared.note.Note.TheVariants.{End}
use Rattle.mv_entry.specs.Entries.{Entry, Noted}
use Rattle.mv_entry.specs.Tallies.{Journaled, Takes}
use Rattle.mv_net.specs.declared.parts.NetParts.{NetParts}
use Rattle.mv_net.specs.Nets.{literals_in}
use Rattle.mv_pass.specs.declared.stop.Stop.{Stop}
use Rattle.mv_pass.specs.declared.stop.Stop.TheVariants.{Note}

-- the end, with the literals of the network
abbrev pub end_of : NetParts → Entry
end_of net = Noted (End (literals_in net.nets))

-- the journal took the end, or couldn't
abbrev pub PutsEnd : NetParts → Journaled → Journaled → Result (Unit {0}) Stop → Type 0
PutsEnd net journal journal' (Ok u) = Takes journal journal' (end_of net) (Ok tt)
PutsEnd net journal journal' (Err stop) = (stop ≡ Note)
    × ((failed : Failed) × Takes journal journal' (end_of net) (Err failed))

-- so the end was put to the journal, with the literals, which are a number of 128 bits
pub record Ends (net : NetParts) (journal journal' : Journaled) (result : Result (Unit {0}) Stop)
    : Type 0 where
  pub puts : PutsEnd net journal journal' result
  pub few : literals_in net.nets < 2 ^ 128

-- What a journal takes of a command.
use Rattle.std.specs.Prelude.{◌≡◌, ◌≤◌, Bool, List}
use Rattle.mv_base.specs.Outside.{Gained, GainedPart}
use Rattle.mv_entry.specs.declared.fault.RuleFault.{RuleFault}
use Rattle.mv_entry.specs.declared.rule.Rule.{Rule}
use Rattle.mv_entry.specs.Entries.{Entry, Applied, entry_text, print}
use Rattle.mv_entry.specs.Tallies.{Journaled, with_entry, with_entries}
use Rattle.mv_net.specs.declared.parts.NetParts.{NetParts}
use Rattle.mv_rules.specs.Applies.{Applies, Fails}

-- a journal took such entries: it gained their text, and counted them
pub record Took (Are : List Entry → Type 0) (old new : Journaled) : Type 0 where
  pub entries : List Entry
  pub are : Are entries
  pub gained : Gained old.written new.written (print entries)
  pub counted : new.tally ≡ with_entries old.tally entries

-- a journal gained some first part of the text of such entries
pub record TookPart (Are : List Entry → Type 0) (old new : Journaled) : Type 0 where
  pub entries : List Entry
  pub are : Are entries
  pub gained : GainedPart old.written new.written (print entries)

-- a journal goes on: its count of faults didn't fall, and its text goes where it went
pub record GoesOn (old new : Journaled) : Type 0 where
  pub later : old.written.faults ≤ new.written.faults
  pub place : new.place ≡ old.place

-- the rule applies to the network
pub record CanApply (free : Bool) (rule : Rule) (old : NetParts) : Type 0 where
  pub new : NetParts
  pub applies : Applies free rule old new

-- a rule applied, and the journal took it
pub record TookRule (free : Bool) (rule : Rule) (old new : NetParts) (journal journal' : Journaled)
    : Type 0 where
  pub applies : Applies free rule old new
  pub gained : Gained journal.written journal'.written (entry_text (Applied rule))
  pub counted : journal'.tally ≡ with_entry journal.tally (Applied rule)

-- a rule applied, and the journal gained some first part of its text
pub record TookRulePart (free : Bool) (rule : Rule) (old new : NetParts)
    (journal journal' : Journaled) : Type 0 where
  pub applies : Applies free rule old new
  pub gained : GainedPart journal.written journal'.written (entry_text (Applied rule))

-- a rule was refused for this fault, and nothing came
pub record Refused (free : Bool) (rule : Rule) (fault : RuleFault) (old new : NetParts)
    (journal journal' : Journaled) : Type 0 where
  pub fails : Fails free rule old fault
  pub same : new ≡ old
  pub still : journal' ≡ journal

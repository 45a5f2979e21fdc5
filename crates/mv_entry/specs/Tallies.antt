-- What a journal takes: the text of its entries, and their numbers.
use Rattle.std.specs.Prelude.{◌≡◌, ℕ, Result, List, [], ◌∷◌, OnOk, OnErr}
use Rattle.mv_base.specs.declared.outside.Failed.{Failed}
use Rattle.mv_base.specs.Outside.{Written, Appends, counted}
use Rattle.mv_entry.specs.declared.journal.Tally.{Tally}
use Rattle.mv_entry.specs.declared.note.Note.{Note}
use Rattle.mv_entry.specs.declared.note.Note.TheVariants.{Begin, Dropped, End, Done}
use Rattle.mv_entry.specs.Entries.{Entry, Applied, Noted, entry_text}

-- the tally with a note more: the beginning of a command and a step that is dropped are counted
abbrev pub with_note : Tally → Note → Tally
with_note t (Begin command) = record t { begun = counted t.begun }
with_note t (Dropped why net) = record t { dropped = counted t.dropped }
with_note t (End literals) = t
with_note t (Done before after) = t

-- the tally with an entry more
abbrev pub with_entry : Tally → Entry → Tally
with_entry t (Applied rule) = record t { rules = counted t.rules }
with_entry t (Noted note) = with_note t note

-- the tally with these entries more
abbrev pub with_entries : Tally → List Entry → Tally
with_entries t [] = t
with_entries t (e ∷ es) = with_entries (with_entry t e) es

-- a call counts its entry where it takes it
pub record Counts (old new : Tally) (entry : Entry) (result : Result (Unit {0}) Failed)
    : Type 0 where
  pub taken : OnOk result (new ≡ with_entry old entry)
  pub failed : OnErr result (new ≡ old)

-- the state of a journal: the bytes that it took so far, if it tells them, with its count of
-- faults, the numbers of the entries, and the name of the place to which the bytes go
pub record Journaled : Type 0 where
  pub written : Written
  pub tally : Tally
  pub place : ℕ

-- a call takes an entry: its text, or some first part of it with a fault counted, goes to the same
-- place as before
pub record Takes (old new : Journaled) (entry : Entry) (result : Result (Unit {0}) Failed)
    : Type 0 where
  pub text : Appends old.written new.written (entry_text entry) result
  pub tally : Counts old.tally new.tally entry result
  pub place : new.place ≡ old.place

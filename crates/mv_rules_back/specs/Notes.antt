-- The notes among the entries of a run.
use Rattle.std.specs.Prelude.{List, [], ◌∷◌}
use Rattle.mv_entry.specs.declared.note.Note.{Note}
use Rattle.mv_entry.specs.Entries.{Entry, Applied, Noted}
use Rattle.mv_entries_back.specs.Printable.{Printable}

-- the notes among some entries, in order
abbrev pub notes_of : List Entry → List Note
notes_of [] = []
notes_of (Applied rule ∷ es) = notes_of es
notes_of (Noted note ∷ es) = note ∷ notes_of es

-- a note that can be printed
abbrev pub IsPrintableNote : Note → Type 0
IsPrintableNote note = Printable (Noted note)

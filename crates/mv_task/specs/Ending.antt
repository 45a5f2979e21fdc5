-- The last line of the notes.
use Rattle.std.specs.Prelude.{ℕ, List}
use Rattle.mv_entry.specs.declared.note.Note.TheVariants.{Done}
use Rattle.mv_entry.specs.Entries.{Noted, entry_text}

-- the literals of the network as read and as written
abbrev pub done_line : ℕ → ℕ → List ℕ
done_line before after = entry_text (Noted (Done before after))

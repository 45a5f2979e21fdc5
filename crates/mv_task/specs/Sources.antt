-- What a task reads.
use Rattle.std.specs.Prelude.{◌≡◌, ℕ, List}
use Rattle.mv_base.specs.Outside.{Stored, counted}
use Rattle.mv_files.specs.FileReading.{Holds, Lacks}
use Rattle.mv_files.specs.LexedFiles.{ReadAll}

-- where something is read from: the file of a name, or a text that the program made itself
pub data Source : Type 0 where
  File : (name : List ℕ) → Source
  Text : (text : List ℕ) → Source

-- what is there, where the files tell it
abbrev pub IsContent : Source → Stored → List ℕ → Type 0
IsContent (File name) files content = Holds files name content
IsContent (Text text) files content = content ≡ text

-- this content was read to its end
abbrev pub IsReadWhole : Source → Stored → Stored → List ℕ → Type 0
IsReadWhole (File name) old new content = ReadAll old new name content
IsReadWhole (Text text) old new content = content ≡ text

-- sound files lack it; a text is always there
abbrev pub Misses : Source → Stored → Type 0
Misses (File name) files = Lacks files name
Misses (Text text) files = ⊥

-- the files' count of starts, where it was read: a file is begun once, and no other is
abbrev pub starts_with : Source → ℕ → ℕ
starts_with (File name) starts = counted starts
starts_with (Text text) starts = starts

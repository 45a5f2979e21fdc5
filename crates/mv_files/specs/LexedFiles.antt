-- A file, of so many bytes at most, that was lexed while it was read.
use Rattle.std.specs.Prelude.{◌≡◌, ◌⊎◌, ℕ, ◌≤◌, Some, None, List, [], ◌++◌, length}
use Rattle.mv_base.specs.Outside.{Held, Stored, StillTell, Rose, file_named}
use Rattle.mv_lex.specs.declared.fault.LexFault.{LexFault}
use Rattle.mv_lex.specs.declared.fault.LexFault.TheVariants.{Memory as out_of_memory}
use Rattle.mv_lex.specs.declared.lines.LexLine.{LexLine}
use Rattle.mv_lex.specs.Lines.{lines_of, first_fault, lex_fault}
use Rattle.mv_files.specs.declared.read.TheConstants.{PIECE}
use Rattle.mv_files.specs.declared.lines.LinesStop.{LinesStop}
use Rattle.mv_files.specs.declared.lines.LinesStop.TheVariants.{Failed, Lex}
use Rattle.mv_files.specs.FileReading.{Holds, Lacks}

-- the named file has this content, is the current one, and was read to its end
pub record HasReadAll (before after : Held) (name content : List ℕ) : Type 0 where
  pub named : file_named name before.files ≡ Some content
  pub files : after.files ≡ before.files
  pub current : after.current ≡ Some name
  pub ended : after.rest ≡ []

-- the same where the files tell of themselves
abbrev pub ReadAll : Stored → Stored → List ℕ → List ℕ → Type 0
ReadAll old new name content =
    StillTell old new (λ before after. HasReadAll before after name content)

-- the named file was read to its end, its content has no fault of bytes, and these are its lines
pub record WasLexed (old new : Stored) (name : List ℕ) (limit : ℕ) (lines : List LexLine)
    : Type 0 where
  pub content : List ℕ
  pub read : ReadAll old new name content
  pub lexed : lex_fault limit content ≡ None
  pub lines_are : lines ≡ lines_of content

-- the content of the named file, where the files tell it, has this fault of bytes, and none before
-- it
pub record HasFault (files : Stored) (name : List ℕ) (limit : ℕ) (fault : LexFault) : Type 0 where
  pub content : List ℕ
  pub named : Holds files name content
  pub fault_is : lex_fault limit content ≡ Some fault

-- of the named file, which is the current one, no more was read than bytes without a fault, within
-- the limit, and one piece behind them
pub record HasReadFront (before after : Held) (name : List ℕ) (limit : ℕ) : Type 0 where
  pub front : List ℕ
  pub piece : List ℕ
  pub content : file_named name before.files ≡ Some (front ++ (piece ++ after.rest))
  pub current : after.current ≡ Some name
  pub clear : first_fault limit [] front ≡ None
  pub within : length front ≤ limit
  pub few : length piece ≤ PIECE

-- the same where the files tell of themselves
abbrev pub ReadFront : Stored → Stored → List ℕ → ℕ → Type 0
ReadFront old new name limit =
    StillTell old new (λ before after. HasReadFront before after name limit)

-- why there are no lines of the named file: a call failed, so that the count of faults rose, and
-- sound files lack the name; memory ran out; or the content has a fault
abbrev pub LinesCause : Stored → Stored → List ℕ → ℕ → LinesStop → Type 0
LinesCause old new name limit Failed = Rose old.faults new.faults × Lacks old name
LinesCause old new name limit (Lex fault) = (fault ≡ out_of_memory) ⊎ HasFault old name limit fault

-- A file that is lexed piece by piece, while it is read. For private functions.
use Rattle.std.specs.Prelude.{◌≡◌, ◌⊎◌, ℕ, ◌<◌, ◌≤◌, Bool, true, false, Option, Some, None, List, [], ◌++◌, length}
use Rattle.mv_base.specs.Outside.{Held, Stored, Rose}
use Rattle.mv_lex.specs.declared.fault.LexFault.{LexFault}
use Rattle.mv_lex.specs.declared.fault.LexFault.TheVariants.{Memory as out_of_memory}
use Rattle.mv_lex.specs.declared.lines.LexLine.{LexLine}
use Rattle.mv_lex.specs.Lines.{complete, first_fault}
use Rattle.mv_lex.specs.Reading.{Reading, IsAfter, GainsLines}
use Rattle.mv_files.specs.declared.read.TheConstants.{PIECE}
use Rattle.mv_files.specs.declared.lines.LinesStop.{LinesStop}
use Rattle.mv_files.specs.declared.lines.LinesStop.TheVariants.{Failed, Lex}
use Rattle.mv_files.specs.Pieces.{Passed, Ended, Unsound}

-- ---- a piece

-- a piece was read and lexed behind all that was before: it has a byte, or the file has ended
pub record FedPiece (before after : Option Held) (old new : Reading) (earlier later : List LexLine)
    (more : Bool) : Type 0 where
  pub piece : List ℕ
  pub some : more ≡ true → 0 < length piece
  pub ended : more ≡ false → Ended before after
  pub passed : Passed before after piece
  pub stands : (bytes : List ℕ) → IsAfter old bytes → IsAfter new (bytes ++ piece)
  pub lines : GainsLines old earlier later (λ bytes. complete (bytes ++ piece))
  pub limit : new.limit ≡ old.limit

-- a piece of at most so many bytes was read, in which the lexer stopped: for want of memory, or at
-- this fault, the first behind all that was before
pub record StoppedPiece (before after : Option Held) (old : Reading) (most : ℕ) (fault : LexFault)
    : Type 0 where
  pub piece : List ℕ
  pub few : length piece ≤ most
  pub passed : Passed before after piece
  pub told : (bytes : List ℕ) → IsAfter old bytes
      → (fault ≡ out_of_memory) ⊎ (first_fault old.limit [] (bytes ++ piece) ≡ Some fault)

-- why the reading stops at a piece: the count of faults rose, or the lexer stopped in it
abbrev pub PieceCause : Stored → Stored → Reading → ℕ → LinesStop → Type 0
PieceCause before after old most Failed = Rose before.faults after.faults × Unsound before.held
PieceCause before after old most (Lex fault) = StoppedPiece before.held after.held old most fault

-- ---- all that is left of the current file

-- these bytes were read to the end, and the lexer stands behind them without a fault
pub record FedAll (before after : Option Held) (limit : ℕ) (now : Reading) (lines : List LexLine)
    : Type 0 where
  pub bytes : List ℕ
  pub passed : Passed before after bytes
  pub ended : Ended before after
  pub stands : IsAfter now bytes
  pub lines_are : lines ≡ complete bytes
  pub limited : now.limit ≡ limit

-- bytes without a fault were read and one piece behind them, in which the lexer stopped: for want
-- of memory, or at this fault, the first of them
pub record StoppedBytes (before after : Option Held) (limit : ℕ) (fault : LexFault) : Type 0 where
  pub front : List ℕ
  pub piece : List ℕ
  pub clear : first_fault limit [] front ≡ None
  pub few : length piece ≤ PIECE
  pub passed : Passed before after (front ++ piece)
  pub told : (fault ≡ out_of_memory) ⊎ (first_fault limit [] (front ++ piece) ≡ Some fault)

-- why the reading stops before the end: the count of faults rose, or the lexer stopped
abbrev pub FeedCause : Stored → Stored → ℕ → LinesStop → Type 0
FeedCause before after limit Failed = Rose before.faults after.faults × Unsound before.held
FeedCause before after limit (Lex fault) = StoppedBytes before.held after.held limit fault

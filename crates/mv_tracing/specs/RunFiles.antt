-- The run file that a run of the program takes.
use Rattle.std.specs.Prelude.{◌≡◌, ℕ, Some, None, List, [], ◌∷◌, ◌++◌, codes, decimal}
use Rattle.mv_base.specs.declared.limits.TheConstants.{MAX_NETWORK_BYTES}
use Rattle.mv_lex.specs.declared.fault.LexFault.{LexFault}
use Rattle.mv_lex.specs.declared.fault.LexFault.TheVariants.{BadByte, LongWord, OpenBracket, TooLarge, Memory}
use Rattle.mv_lex.specs.declared.lines.LexLine.{LexLine}
use Rattle.mv_lex.specs.Lines.{lines_of, lex_fault}
use Rattle.mv_task.specs.Lines.{memory_line}
use Rattle.mv_task.specs.Sources.{File}
use Rattle.mv_task.specs.Stages.{Stage}
use Rattle.mv_tracing.specs.declared.fault.RunRefusal.{RunRefusal}

-- the line that tells a cause at a line of the run file
abbrev pub told_line : ℕ → List ℕ → List ℕ
told_line line cause = codes "# fault trace " ++ decimal line ++ 32 ∷ cause ++ 10 ∷ []

-- the line of a fault of its bytes, which has a number. (Want of memory is none: no bytes have it.)
abbrev pub lex_line : LexFault → List ℕ
lex_line (BadByte line byte) = told_line line (codes "Lex 1")
lex_line (LongWord line) = told_line line (codes "Lex 2")
lex_line (OpenBracket line) = told_line line (codes "Lex 3")
lex_line (TooLarge line) = told_line line (codes "Lex 4")
lex_line Memory = memory_line

-- the line of a refusal
abbrev pub refusal_line : RunRefusal → List ℕ
refusal_line refusal = lex_line refusal.fault

-- the bytes have no fault
abbrev pub HasNoFault : List ℕ → Type 0
HasNoFault bytes = lex_fault MAX_NETWORK_BYTES bytes ≡ None

-- the bytes are refused for a fault, which has this line
pub record TellsBytes (bytes line : List ℕ) : Type 0 where
  pub fault : LexFault
  pub refuses : lex_fault MAX_NETWORK_BYTES bytes ≡ Some fault
  pub is : line ≡ lex_line fault

-- the bytes have no fault, and these are their lines
pub record SaysLines (bytes : List ℕ) (lines : List LexLine) : Type 0 where
  pub lexed : HasNoFault bytes
  pub are : lines ≡ lines_of bytes

-- the stage of the named run file, whose lines are judged with the network
abbrev pub run_stage : List ℕ → Stage
run_stage name =
    record { from = File name; Accepts = HasNoFault; Faults = TellsBytes; refusal = 11 }

-- The run file, read.
use Rattle.std.proofs.Common.{◌≡◌, ℕ, List, Some, refl}
use Rattle.mv_base.specs.Outside.{Stored}
use Rattle.mv_base.specs.declared.limits.TheConstants.{MAX_NETWORK_BYTES}
use Rattle.mv_lex.specs.declared.fault.LexFault.{LexFault}
use Rattle.mv_lex.specs.declared.lines.LexLine.{LexLine}
use Rattle.mv_lex.specs.Lines.{lex_fault}
use Rattle.mv_files.specs.FileReading.{Stay, BeganOne}
use Rattle.mv_files.specs.LexedFiles.{WasLexed, HasFault}
use Rattle.mv_task.specs.Stops.{Gives, RefusesFor, WasBegun}
use Rattle.mv_tracing.specs.RunFiles.{HasNoFault, SaysLines, run_stage, refusal_line}

-- bytes that are refused for a fault have one
refused_none : (content : List ℕ) (f : LexFault) → lex_fault MAX_NETWORK_BYTES content ≡ Some f → HasNoFault content → ⊥
refused_none content f r none = cc

module _ (name : List ℕ) (old : Stored) where
  pub bytes_refused : (f : LexFault) → HasFault old name MAX_NETWORK_BYTES f → RefusesFor refusal_line (run_stage name) old (record { fault = f })
  bytes_refused f h =
      record { faulty = record { content = h.content; is = h.named; refused = refused_none h.content f h.fault_is; fault = record { fault = f; refuses = h.fault_is; is = refl } } }

  pub lines_taken : (new : Stored) (lines : List LexLine) → WasLexed old new name MAX_NETWORK_BYTES lines → Gives SaysLines (run_stage name) old new lines
  lines_taken new lines w = record { content = w.content; read = w.read; accepted = w.lexed; said = record { lexed = w.lexed; are = w.lines_are } }

  pub lines_begun : (new : Stored) → Stay old new → BeganOne old new → WasBegun (run_stage name) old new
  lines_begun new stay began = record { stay = stay; begun = began }

pub ruleset takes_lines = (bytes_refused, lines_taken, lines_begun)

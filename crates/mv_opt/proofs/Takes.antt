-- The script, read and judged.
use Rattle.std.proofs.Common.{◌≡◌, ℕ, ◌+◌, ◌≤◌, ◌<◌, List, ◌++◌, length, length-append, refl, sym, subst, arith}
use Rattle.mv_base.specs.Outside.{Stored}
use Rattle.mv_base.specs.declared.limits.TheConstants.{MAX_SCRIPT_BYTES}
use Rattle.mv_files.specs.FileReading.{Read, Stay, BeganOne}
use Rattle.mv_script.specs.declared.fault.TextFault.{TextFault}
use Rattle.mv_script.specs.Faults.{IsFirstFault, Long, Within}
use Rattle.mv_script.specs.Grammar.{IsScript}
use Rattle.mv_script.specs.Scripts.{Items}
use Rattle.mv_script.proofs.OneAnswer.{no_script}
use Rattle.mv_task.specs.Stops.{Gives, RefusesFor, WasBegun}
use Rattle.mv_files.proofs.Contents.{read_behind, read_whole}
use Rattle.mv_opt.specs.Scripts.{SaysScript, refusal_line, script_stage}

-- a text with a fault isn't accepted
never_faulty : (text : List ℕ) (f : TextFault) → IsFirstFault text f → SaysScript text → ⊥
never_faulty text f h s = no_script text f s.items h s.says

-- what was read is the whole text, or so much of it that it is too long
fault_whole : (bytes rest : List ℕ) (f : TextFault) → (length bytes ≤ MAX_SCRIPT_BYTES → bytes ++ rest ≡ bytes) → IsFirstFault bytes f → IsFirstFault (bytes ++ rest) f
fault_whole bytes rest f ended (Long long is) =
    let size : length (bytes ++ rest) ≡ length bytes + length rest = length-append bytes rest in
    let longer : MAX_SCRIPT_BYTES < length (bytes ++ rest) = omega arith in
    Long longer is
fault_whole bytes rest f ended (Within short is) =
    subst (λ t. IsFirstFault t f) (sym (ended short)) (Within short is)

module _ (name : List ℕ) (old new : Stored) where
  pub script_refused : (bytes : List ℕ) (f : TextFault) → Read old new name MAX_SCRIPT_BYTES bytes → IsFirstFault bytes f → RefusesFor refusal_line (script_stage name) old (record { fault = f })
  script_refused bytes f r h =
      let b = read_behind old new name MAX_SCRIPT_BYTES bytes r in
      let whole = fault_whole bytes b.rest f b.ended h in
      record { faulty = record { content = bytes ++ b.rest; is = b.is; refused = never_faulty (bytes ++ b.rest) f whole; fault = record { fault = f; refuses = whole; is = refl } } }

  pub script_gives : (bytes : List ℕ) (items : Items) → Read old new name MAX_SCRIPT_BYTES bytes → IsScript bytes items → Gives IsScript (script_stage name) old new items
  script_gives bytes items r s =
      record { content = bytes; read = read_whole old new name MAX_SCRIPT_BYTES bytes s.short r; accepted = record { items = items; says = s }; said = s }

  pub script_begun : Stay old new → BeganOne old new → WasBegun (script_stage name) old new
  script_begun stay began = record { stay = stay; begun = began }

pub ruleset takes_script = (script_refused, script_gives, script_begun)

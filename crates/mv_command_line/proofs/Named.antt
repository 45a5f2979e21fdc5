-- From the parts of a command line to its task.
use Rattle.std.proofs.Common.{◌≡◌, ◌==◌, List, [], ◌∷◌, length, map, Option, None, codes, refl, sym, arith, eqb-true, ap, true, false}
use Rattle.std.specs.Prelude.{option_and_then, option_map, slice_index_or, string_bytes}
use Rattle.std.specs.declared.string.String.{String}
use Rattle.std.specs.declared.alloc.Global.{Global}
use Rattle.std.proofs.lemmas.Bool.{true≢false}
use Rattle.clap.specs.Walk.{Text}
use Rattle.mv_base.specs.Names.{same_word}
use Rattle.mv_command_line.specs.Answers.{IsRefusedBy}
use Rattle.mv_command_line.specs.CommandLine.{Parts, asked_by, check, draw_asked, files_asked, names_asked, opt, task_of, trace, work}
use Rattle.mv_command_line.specs.Given.{rest_parts}
use Rattle.mv_command_line.specs.declared.task.WordsStop.{WordsStop}
use Rattle.mv_command_line.specs.declared.task.WordsStop.TheVariants.{Refused, Memory}

-- what is made of nothing is nothing
pub refused_too : {A B : Type 0} (f : A → B) (o : Option A) (stop : WordsStop) → IsRefusedBy o stop → IsRefusedBy (option_map f o) stop
refused_too f o Refused h = ap (option_map f) h
refused_too f o Memory h = tt

pub no_words : (words : List (String Global)) → true ≡ (length words == 0) → task_of (map string_bytes words) ≡ None
unfolding task_of
no_words [] none = refl
no_words (w ∷ words) none = absurd (omega (arith, eqb-true _ _ (sym none)))

pub words_ask : (words : List (String Global)) (name : Text) → false ≡ (length words == 0) → name ≡ slice_index_or (map string_bytes words) 0 []
    → asked_by name (rest_parts words) ≡ task_of (map string_bytes words)
unfolding task_of
words_ask [] name some is = absurd (true≢false (sym some))
words_ask (w ∷ words) name some is = ap (λ n. asked_by n (rest_parts (w ∷ words))) is

-- the task by its name
module _ (name : Text) (parts : Option Parts) where
  pub opt_asked : true ≡ same_word name (codes "opt") → option_map opt (option_and_then files_asked parts) ≡ asked_by name parts
  opt_asked y = rw (sym y) refl

  pub check_asked : false ≡ same_word name (codes "opt") → true ≡ same_word name (codes "check") → option_map check (option_and_then files_asked parts) ≡ asked_by name parts
  check_asked n y = rw (sym n, sym y) refl

  pub work_asked : false ≡ same_word name (codes "opt") → false ≡ same_word name (codes "check") → true ≡ same_word name (codes "work")
      → option_map work (option_and_then draw_asked parts) ≡ asked_by name parts
  work_asked n m y = rw (sym n, sym m, sym y) refl

  pub trace_asked : false ≡ same_word name (codes "opt") → false ≡ same_word name (codes "check") → false ≡ same_word name (codes "work") → true ≡ same_word name (codes "trace")
      → option_map trace (option_and_then names_asked parts) ≡ asked_by name parts
  trace_asked n m l y = rw (sym n, sym m, sym l, sym y) refl

  pub none_asked : false ≡ same_word name (codes "opt") → false ≡ same_word name (codes "check") → false ≡ same_word name (codes "work") → false ≡ same_word name (codes "trace") → asked_by name parts ≡ None
  none_asked n m l t = rw (sym n, sym m, sym l, sym t) refl

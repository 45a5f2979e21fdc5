-- The latches of a model: their names are lawful, line by line, and where the values of all its lines have no fault their
-- inputs have as many values as their outputs.
use Rattle.std.proofs.Common.{◌≡◌, ℕ, true, List, [], ◌∷◌, ◌++◌}
use Rattle.std.specs.Prelude.{All, drop, nat_lt, length}
use Rattle.std.proofs.lemmas.Bool.{not-false, eqb-true}
use Rattle.std.proofs.lemmas.List.Elements.{All-nil, All-cons, All-append}
use Rattle.mv_base.specs.Names.{is_net_name}
use Rattle.mv_lex.specs.declared.lines.LexLine.{LexLine}
use Rattle.mv_design.specs.declared.design.Decl.{Decl}
use Rattle.mv_design.specs.declared.design.FileLatch.{FileLatch}
use Rattle.mv_design.specs.Values.{count_of}
use Rattle.mv_design.specs.Proper.{IsFileLatch}
use Rattle.mv_fault.specs.declared.fault.ParseFault.TheVariants.{Missing, Extra}
use Rattle.mv_fault.specs.Tells.{when}
use Rattle.mv_fault.proofs.Nothing.{left-nothing, right-nothing, when-nothing}
use Rattle.mv_decl.specs.Line.{net_name_faults}
use Rattle.mv_line.specs.Latches.{latch_of}
use Rattle.mv_line.specs.Words.{behind_first, first_of, first_word}
use Rattle.mv_parse.specs.declared.command.Command.{Command}
use Rattle.mv_parse.specs.declared.command.Command.TheVariants.{Latch}
use Rattle.mv_parse.specs.declared.known.OpenModel.{OpenModel}
use Rattle.mv_parse.specs.Commands.{command_at}
use Rattle.mv_parse.specs.Known.{latch_at, latches_of}
use Rattle.mv_parse.specs.Grammar.{latch_faults, latch_value_faults, table_value_faults, tables_faults, inside_faults}
use Rattle.mv_parse_laws.proofs.Decls.{net-lawful}
use Rattle.mv_parse_laws.proofs.Said.{said-push}

-- the names of a latch are lawful
pub record IsNamed (h : FileLatch) : Type 0 where
  pub input : is_net_name h.input ≡ true
  pub output : is_net_name h.output ≡ true

-- ---- one line more

latch-named : (n : ℕ) (word : List ℕ) (words : List (List ℕ)) → latch_faults n word words ≡ []
    → IsNamed (record { line = n; input = first_of words; output = first_of (drop 1 words) })
unfolding latch_faults
latch-named n word [] none = cc
latch-named n word (input ∷ []) none = let lacks : Missing n word ∷ [] ≡ [] = right-nothing (net_name_faults n input) (Missing n word ∷ []) none in cc
latch-named n word (input ∷ output ∷ words) none =
    let ins = net_name_faults n input in
    let outs = net_name_faults n output in
    let names : ins ++ outs ≡ [] = left-nothing (ins ++ outs) (when (nat_lt 0 (length words)) (Extra n word)) none in
    record { input = net-lawful n input (left-nothing ins outs names); output = net-lawful n output (right-nothing ins outs names) }

latch-here : (c : Command) (m : OpenModel) (l : LexLine) → inside_faults c m l ≡ [] → All IsNamed (latch_at c l)
latch-here Latch m l none = All-cons IsNamed (latch_of l) [] (latch-named l.number (first_word l) (behind_first l) none) (All-nil IsNamed)
latch-here _ m l none = All-nil IsNamed

pub latches-push : (m : OpenModel) (ls : List LexLine) (l : LexLine) → inside_faults (command_at l) m l ≡ [] → All IsNamed (latches_of ls)
    → All IsNamed (latches_of (ls ++ l ∷ []))
latches-push m ls l none h =
    said-push IsNamed (λ (x : LexLine). latch_at (command_at x) x) ls l h (latch-here (command_at l) m l none)

-- ---- at the end of the model

-- the input of a latch has as many values as its output
abbrev IsBalanced : List Decl → FileLatch → Type 0
IsBalanced ds h = count_of ds h.input ≡ count_of ds h.output

balanced-here : (c : Command) (ds : List Decl) (l : LexLine) (ls : List LexLine) → table_value_faults c ds l ls ≡ [] → All (IsBalanced ds) (latch_at c l)
unfolding latch_value_faults
balanced-here Latch ds l ls none = All-cons (IsBalanced ds) (latch_of l) [] (eqb-true _ _ (not-false _ (when-nothing _ _ none))) (All-nil (IsBalanced ds))
balanced-here _ ds l ls none = All-nil (IsBalanced ds)

balanced : (ds : List Decl) (ls : List LexLine) → tables_faults ds ls ≡ [] → All (IsBalanced ds) (latches_of ls)
balanced ds [] none = All-nil (IsBalanced ds)
balanced ds (l ∷ ls) none =
    let here = table_value_faults (command_at l) ds l ls in
    All-append (IsBalanced ds) (latch_at (command_at l) l) (latches_of ls)
    (balanced-here (command_at l) ds l ls (left-nothing here (tables_faults ds ls) none))
    (balanced ds ls (right-nothing here (tables_faults ds ls) none))

pub latches-fit : (ds : List Decl) (ls : List LexLine) → All IsNamed (latches_of ls) → tables_faults ds ls ≡ [] → All (IsFileLatch ds) (latches_of ls)
latches-fit ds ls named none k d within =
    let names = named k d within in
    record { input = names.input; output = names.output; counts = balanced ds ls none k d within }

-- The latches of lines without a fault: their names are lawful, and so are their reset tables.
use Rattle.std.proofs.Common.{◌≡◌, ◌∙◌, ℕ, ◌+◌, ◌<◌, true, List, [], ◌∷◌, ◌++◌, length, length-append, drop, refl, sym, ap, arith}
use Rattle.std.specs.Prelude.{All, nat_lt}
use Rattle.std.proofs.lemmas.Bool.{cond_both, ltb-true}
use Rattle.std.proofs.lemmas.List.Elements.{All-nil, All-cons, All-append}
use Rattle.mv_base.specs.Names.{is_net_name}
use Rattle.mv_base.specs.Set.{one}
use Rattle.mv_lex.specs.declared.lines.LexLine.{LexLine}
use Rattle.mv_design.specs.declared.table.Entry.TheVariants.{Set}
use Rattle.mv_design.specs.declared.table.FileTable.{FileTable}
use Rattle.mv_design.specs.Proper.{IsFileRow, IsFileReset, IsFileLatch}
use Rattle.mv_fault.specs.declared.fault.ParseFault.TheVariants.{Missing}
use Rattle.mv_fault.proofs.Nothing.{left-nothing, right-nothing}
use Rattle.mv_decl.specs.Line.{net_name_faults}
use Rattle.mv_parse_laws.proofs.Decls.{net-lawful}
use Rattle.mv_line.specs.Words.{behind_first, first_of, first_word}
use Rattle.mv_line.specs.Latches.{latch_of}
use Rattle.mv_blif_line.specs.declared.command.Command.{Command}
use Rattle.mv_blif_line.specs.declared.command.Command.TheVariants.{Latch}
use Rattle.mv_blif_line.specs.declared.fault.BlifFault.TheVariants.{Line}
use Rattle.mv_blif_line.specs.Commands.{command_at}
use Rattle.mv_blif_line.specs.Latches.{net_faults, settings_faults, latch_line_faults, settings_at, constant_reset, resets_at}
use Rattle.mv_blif.specs.declared.known.Known.{Known}
use Rattle.mv_blif.specs.Known.{known}
use Rattle.mv_blif.specs.Grammar.{inside_faults, faults_behind}
use Rattle.mv_blif.specs.Meaning.{at_latch, said_of, latches_of, resets_of, settings_said}
use Rattle.mv_blif_laws.proofs.Faultless.{map-nothing, here-none, behind-none}
use Rattle.mv_blif_laws.proofs.Tables.{value-fits}

-- the words behind `.latch` begin with two lawful names
record IsNamed (words : List (List ℕ)) : Type 0 where
  input : is_net_name (first_of words) ≡ true
  output : is_net_name (first_of (drop 1 words)) ≡ true

net-named : (n : ℕ) (w : List ℕ) → net_faults n w ≡ [] → is_net_name w ≡ true
unfolding net_faults
net-named n w none = net-lawful n w (map-nothing Line (net_name_faults n w) none)

line-named : (n : ℕ) (word : List ℕ) (words : List (List ℕ)) → latch_line_faults n word words ≡ [] → IsNamed words
unfolding latch_line_faults
line-named n word [] none = cc
line-named n word (input ∷ []) none =
    let lacks : Line (Missing n word) ∷ [] ≡ [] = right-nothing (net_faults n input) (Line (Missing n word) ∷ []) none in cc
line-named n word (input ∷ output ∷ words) none =
    let ins = net_faults n input in
    let outs = net_faults n output in
    let names : ins ++ outs ≡ [] = left-nothing (ins ++ outs) (settings_faults n word words) none in
    record { input = net-named n input (left-nothing ins outs names); output = net-named n output (right-nothing ins outs names) }

-- ---- what such a line says

reset-fits : (n : ℕ) (net : List ℕ) (value : ℕ) → is_net_name net ≡ true → value < 2 → IsFileReset [] (constant_reset n net value)
reset-fits n net value lawful low =
    let t : FileTable = constant_reset n net value in
    let row : IsFileRow [] t (record { ins = []; outs = Set (one value) ∷ [] }) = record { sets = tt; outs = value-fits [] (net ∷ []) value refl low } in
    record {
      table = record {
        inputs = refl;
        outputs = rw lawful refl;
        some = omega arith;
        rows = All-cons (IsFileRow [] t) (record { ins = []; outs = Set (one value) ∷ [] }) [] row (All-nil (IsFileRow [] t));
        default = λ entries e. cc;
      };
      single = refl;
    }

resets-here : (l : LexLine) → IsNamed (behind_first l) → All (IsFileReset []) (resets_at l)
unfolding resets_at
resets-here l h =
    let value : ℕ = (settings_at l).init in
    let reset : FileTable = constant_reset l.number (first_of (drop 1 (behind_first l))) value in
    cond_both (nat_lt value 2) (reset ∷ []) [] (All (IsFileReset []))
    (λ y. All-cons (IsFileReset []) reset [] (reset-fits l.number (first_of (drop 1 (behind_first l))) value h.output (ltb-true value 2 y)) (All-nil (IsFileReset [])))
    (λ n. All-nil (IsFileReset []))

-- what a line of a latch says passes a test that holds where its names are lawful
said-here : {X : Type 0} (P : X → Type 0) (said : LexLine → List X) (c : Command) (k : Known) (before : List LexLine) (l : LexLine)
    → (IsNamed (behind_first l) → All P (said l)) → inside_faults c k before l ≡ [] → All P (at_latch said c l)
said-here P said Latch k before l fits none = fits (line-named l.number (first_word l) (behind_first l) none)
said-here P said _ k before l fits none = All-nil P

said-fits : {X : Type 0} (P : X → Type 0) (said : LexLine → List X) → ((l : LexLine) → IsNamed (behind_first l) → All P (said l))
    → (before ls : List LexLine) → faults_behind before ls ≡ [] → All P (said_of said ls)
said-fits P said fits before [] none = All-nil P
said-fits P said fits before (l ∷ ls) none =
    All-append P (at_latch said (command_at l) l) (said_of said ls)
    (said-here P said (command_at l) (known before) before l (fits l) (here-none before l ls none))
    (said-fits P said fits (before ++ l ∷ []) ls (behind-none before l ls none))

pub latches-fit : (before ls : List LexLine) → faults_behind before ls ≡ [] → All (IsFileLatch []) (latches_of ls)
latches-fit =
    said-fits (IsFileLatch []) (λ l. latch_of l ∷ [])
    (λ l h. All-cons (IsFileLatch []) (latch_of l) [] (record { input = h.input; output = h.output; counts = refl }) (All-nil (IsFileLatch [])))

pub resets-fit : (before ls : List LexLine) → faults_behind before ls ≡ [] → All (IsFileReset []) (resets_of ls)
resets-fit = said-fits (IsFileReset []) resets_at resets-here

-- something is said of each latch
said-once : {X : Type 0} (said : LexLine → X) (c : Command) (l : LexLine) → length (at_latch (λ x. said x ∷ []) c l) ≡ length (at_latch (λ x. latch_of x ∷ []) c l)
said-once said Latch l = refl
said-once said _ l = refl

pub settings-long : (ls : List LexLine) → length (settings_said ls) ≡ length (latches_of ls)
settings-long [] = refl
settings-long (l ∷ ls) =
    let one : length (at_latch (λ x. settings_at x ∷ []) (command_at l) l) ≡ length (at_latch (λ x. latch_of x ∷ []) (command_at l) l) = said-once settings_at (command_at l) l in
    length-append (at_latch (λ x. settings_at x ∷ []) (command_at l) l) (settings_said ls)
    ∙ (ap (λ n. n + length (settings_said ls)) one
    ∙ (ap (λ n. length (at_latch (λ x. latch_of x ∷ []) (command_at l) l) + n) (settings-long ls)
    ∙ sym (length-append (at_latch (λ x. latch_of x ∷ []) (command_at l) l) (latches_of ls))))

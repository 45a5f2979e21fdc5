-- The lines of latches, and what each of them says.
use Rattle.std.proofs.Common.{◌≡◌, ◌∙◌, ℕ, ◌<◌, Bool, true, false, List, [], ◌∷◌, ◌++◌, drop, codes, Some, None, refl, sym, ap, subst, arith, ⊎_elim}
use Rattle.std.specs.Prelude.{All, Option, if◌then◌else◌, is_none, unwrap_or, map}
use Rattle.std.specs.List.{flat_map}
use Rattle.std.proofs.lemmas.Bool.{cases_Bool, cond-true, cond-false, false≢true}
use Rattle.std.proofs.lemmas.List.{append-nil}
use Rattle.std.proofs.lemmas.List.Concat.{flat_map-append, flat_map_single}
use Rattle.std.proofs.lemmas.List.Elements.{All-nil, All-cons, All-append}
use Rattle.std.proofs.lemmas.Option.{none-some, same_Some}
use Rattle.mv_base.specs.Names.{same_word}
use Rattle.mv_lex.specs.declared.lines.LexLine.{LexLine}
use Rattle.mv_design.specs.declared.design.FileLatch.{FileLatch}
use Rattle.mv_design.specs.declared.table.FileTable.{FileTable}
use Rattle.mv_fault.specs.Tells.{when}
use Rattle.mv_fault.specs.declared.fault.ParseFault.TheVariants.{Extra}
use Rattle.mv_fault.proofs.Nothing.{left-nothing, right-nothing, when-nothing}
use Rattle.mv_latch.specs.declared.latch.BlifLatch.{BlifLatch}
use Rattle.mv_line.specs.Latches.{latch_of}
use Rattle.mv_line.specs.Words.{behind_first, first_word}
use Rattle.mv_blif_line.specs.declared.command.Command.{Command}
use Rattle.mv_blif_line.specs.declared.command.Command.TheVariants.{Latch}
use Rattle.mv_blif_line.specs.declared.fault.BlifFault.TheVariants.{Line, BadLatch}
use Rattle.mv_blif_line.specs.Commands.{command_at}
use Rattle.mv_blif_line.specs.Latches.{kind_of, init_of, kind_faults, init_faults, settings_faults, net_faults, latch_line_faults}
use Rattle.mv_blif_line.specs.Latches.{control_of, init_said, settings_of, settings_at, resets_at}
use Rattle.mv_blif.specs.declared.known.Known.{Known}
use Rattle.mv_blif.specs.Known.{known}
use Rattle.mv_blif.specs.Grammar.{inside_faults, faults_behind}
use Rattle.mv_blif.specs.Meaning.{at_latch, said_of, latches_of, resets_of, settings_said}
use Rattle.mv_blif_laws.proofs.Faultless.{here-none, behind-none}

-- ---- the lines of latches

-- those among these lines
abbrev pub latch_lines : List LexLine → List LexLine
latch_lines ls = said_of (λ l. l ∷ []) ls

-- what all lines of latches say is what each of them says
said-here : {X : Type 0} (said : LexLine → List X) (c : Command) (l : LexLine) → at_latch said c l ≡ flat_map said (at_latch (λ x. x ∷ []) c l)
said-here said Latch l = sym (append-nil (said l))
said-here said _ l = refl

pub said-each : {X : Type 0} (said : LexLine → List X) (ls : List LexLine) → said_of said ls ≡ flat_map said (latch_lines ls)
said-each said [] = refl
said-each said (l ∷ ls) =
    let here : List LexLine = at_latch (λ x. x ∷ []) (command_at l) l in
    (λ i. said-here said (command_at l) l i ++ said-each said ls i) ∙ sym (flat_map-append said here (latch_lines ls))

pub said-once : {X : Type 0} (said : LexLine → X) (ls : List LexLine) → said_of (λ l. said l ∷ []) ls ≡ map said (latch_lines ls)
said-once said ls = said-each (λ l. said l ∷ []) ls ∙ flat_map_single said (latch_lines ls)

-- what holds of all that any line of a latch says
pub said-all : {X : Type 0} (P : X → Type 0) (said : LexLine → List X) → ((l : LexLine) → All P (said l)) → (ls : List LexLine) → All P (said_of said ls)
said-all P said each [] = All-nil P
said-all P said each (l ∷ ls) = All-append P (at_latch said (command_at l) l) (said_of said ls) (here (command_at l)) (said-all P said each ls)
  where
    here : (c : Command) → All P (at_latch said c l)
    here Latch = each l
    here _ = All-nil P

-- ---- the words behind OUT

-- there is a control only where there is a kind
abbrev pub IsBare : BlifLatch → Type 0
IsBare b = b.kind ≡ None → b.control ≡ None

kind-some : (n : ℕ) (w : List ℕ) → kind_faults n w ≡ [] → kind_of w ≡ None → ⊥
unfolding kind_faults
kind-some n w none e = false≢true (sym (when-nothing (is_none (kind_of w)) (BadLatch n w) none) ∙ ap is_none e)

words-bare : (n : ℕ) (word : List ℕ) (words : List (List ℕ)) → settings_faults n word words ≡ [] → IsBare (settings_of words)
unfolding settings_faults settings_of
words-bare n word [] none = λ e. refl
words-bare n word (init ∷ []) none = λ e. refl
words-bare n word (kind ∷ control ∷ []) none = λ e. absurd (kind-some n kind none e)
words-bare n word (kind ∷ control ∷ init ∷ words) none =
    λ e.
    absurd
    (kind-some n kind (left-nothing (kind_faults n kind) (init_faults n init) (left-nothing (kind_faults n kind ++ init_faults n init) _ none)) e)

-- a control isn't named as one that is none
control-plain : (u w : List ℕ) → control_of u ≡ Some w → same_word w (codes "NIL") ≡ false
unfolding control_of
control-plain u w e =
    ⊎_elim
    (λ (y : same_word u (codes "NIL") ≡ true). absurd (none-some w (sym (cond-true (same_word u (codes "NIL")) None (Some u) y) ∙ e)))
    (λ (n : same_word u (codes "NIL") ≡ false).
    let same : u ≡ w = same_Some u w (sym (cond-false (same_word u (codes "NIL")) None (Some u) n) ∙ e) in
    subst (λ v. same_word v (codes "NIL") ≡ false) same n)
    (cases_Bool (same_word u (codes "NIL")))

pub words-plain : (words : List (List ℕ)) (w : List ℕ) → (settings_of words).control ≡ Some w → same_word w (codes "NIL") ≡ false
unfolding settings_of
words-plain [] w e = absurd (none-some w e)
words-plain (init ∷ []) w e = absurd (none-some w e)
words-plain (kind ∷ control ∷ []) w e = control-plain control w e
words-plain (kind ∷ control ∷ init ∷ words) w e = control-plain control w e

-- an INIT is one of four
abbrev IsLow : Option ℕ → Type 0
IsLow o = unwrap_or o 3 < 4

low_either : (b : Bool) (v : ℕ) (o : Option ℕ) → v < 4 → IsLow o → IsLow (if b then Some v else o)
low_either true v o low rest = low
low_either false v o low rest = rest

abbrev from_three : List ℕ → Option ℕ
from_three w = if same_word w (codes "3") then Some 3 else None

abbrev from_two : List ℕ → Option ℕ
from_two w = if same_word w (codes "2") then Some 2 else from_three w

abbrev from_one : List ℕ → Option ℕ
from_one w = if same_word w (codes "1") then Some 1 else from_two w

init-low : (w : List ℕ) → init_said w < 4
unfolding init_said init_of
init-low w =
    low_either (same_word w (codes "0")) 0 (from_one w) (omega arith)
    (low_either (same_word w (codes "1")) 1 (from_two w) (omega arith)
    (low_either (same_word w (codes "2")) 2 (from_three w) (omega arith)
    (low_either (same_word w (codes "3")) 3 None (omega arith) (omega arith))))

pub words-low : (words : List (List ℕ)) → (settings_of words).init < 4
unfolding settings_of
words-low [] = omega arith
words-low (init ∷ []) = init-low init
words-low (kind ∷ control ∷ []) = omega arith
words-low (kind ∷ control ∷ init ∷ words) = init-low init

-- ---- lines without a fault

line-bare : (n : ℕ) (word : List ℕ) (words : List (List ℕ)) → latch_line_faults n word words ≡ [] → IsBare (settings_of (drop 2 words))
unfolding latch_line_faults settings_of
line-bare n word [] none = λ e. refl
line-bare n word (input ∷ []) none = λ e. refl
line-bare n word (input ∷ output ∷ words) none =
    words-bare n word words (right-nothing (net_faults n input ++ net_faults n output) (settings_faults n word words) none)

bare-here : (c : Command) (k : Known) (before : List LexLine) (l : LexLine) → inside_faults c k before l ≡ []
    → All (λ x. IsBare (settings_at x)) (at_latch (λ x. x ∷ []) c l)
bare-here Latch k before l none =
    let P : LexLine → Type 0 = λ x. IsBare (settings_at x) in
    All-cons P l [] (line-bare l.number (first_word l) (behind_first l) none) (All-nil P)
bare-here _ k before l none = All-nil (λ x. IsBare (settings_at x))

pub all-bare : (before ls : List LexLine) → faults_behind before ls ≡ [] → All (λ x. IsBare (settings_at x)) (latch_lines ls)
all-bare before [] none = All-nil (λ x. IsBare (settings_at x))
all-bare before (l ∷ ls) none =
    All-append (λ x. IsBare (settings_at x)) (at_latch (λ x. x ∷ []) (command_at l) l) (latch_lines ls)
    (bare-here (command_at l) (known before) before l (here-none before l ls none))
    (all-bare (before ++ l ∷ []) ls (behind-none before l ls none))

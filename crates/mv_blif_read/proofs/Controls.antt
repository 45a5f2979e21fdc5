-- Lines without a fault: each control is one of the inputs.
use Rattle.std.proofs.Common.{◌≡◌, ◌∙◌, ℕ, Bool, true, false, not, ◌&&◌, List, [], ◌∷◌, ◌++◌, Some, None, refl, sym, ap, ⊎_elim}
use Rattle.std.specs.Prelude.{All, Option, if◌then◌else◌}
use Rattle.std.specs.List.{flat_map}
use Rattle.std.proofs.lemmas.Bool.{cases_Bool, and_parts, not-true, not-false, false≢true}
use Rattle.std.proofs.lemmas.List.{append-nil, append_assoc}
use Rattle.std.proofs.lemmas.List.Concat.{flat_map-append}
use Rattle.std.proofs.lemmas.List.Elements.{All-nil, All-cons}
use Rattle.mv_base.specs.Names.{among}
use Rattle.mv_lex.specs.declared.lines.LexLine.{LexLine}
use Rattle.mv_fault.specs.declared.fault.ParseFault.TheVariants.{NoModel}
use Rattle.mv_fault.specs.Tells.{when}
use Rattle.mv_fault.proofs.Nothing.{left-nothing, right-nothing, when-nothing}
use Rattle.mv_line.specs.Words.{first_word, behind_first}
use Rattle.mv_blif_line.specs.declared.command.Command.{Command}
use Rattle.mv_blif_line.specs.declared.command.Command.TheVariants.{Model, Latch, End}
use Rattle.mv_blif_line.specs.declared.fault.BlifFault.{BlifFault}
use Rattle.mv_blif_line.specs.declared.fault.BlifFault.TheVariants.{Line, BadLatch}
use Rattle.mv_blif_line.specs.Commands.{command_at, is_model}
use Rattle.mv_blif_line.specs.Heads.{end_faults}
use Rattle.mv_blif_line.specs.Latches.{settings_at, control_faults}
use Rattle.mv_blif.specs.declared.known.Known.{Known}
use Rattle.mv_blif.specs.Known.{known, inputs_of}
use Rattle.mv_blif.specs.Grammar.{control_faults_at, controls_faults, is_open, line_faults, file_faults, faults_behind, faults_of}
use Rattle.mv_blif.specs.Meaning.{at_latch, said_of}
use Rattle.mv_blif.specs.Steps.{line_step}
use Rattle.mv_blif.proofs.Knowns.{known-push}
use Rattle.mv_blif_laws.proofs.Faultless.{outside-none, inside-none, behind-none}
use Rattle.mv_blif_read.proofs.Latches.{latch_lines, said-each}

-- ---- from line to line

-- a line that doesn't begin the model has a fault where the model has ended
not-ended : (c : Command) (k : Known) (before : List LexLine) (l : LexLine) → is_model c ≡ false → line_faults c k before l ≡ [] → k.ended ≡ true → ⊥
unfolding line_faults
not-ended c k before l plain none ended =
    ⊎_elim
    (λ (y : is_open k ≡ true). false≢true (sym (not-true k.ended (and_parts k.begun (not k.ended) y).1) ∙ ended))
    (λ (n : is_open k ≡ false). outside-none c l (rw n at (rw plain at none)))
    (cases_Bool (is_open k))

-- the controls of these lines are among these inputs
abbrev AreChecked : List (List ℕ) → List LexLine → Type 0
AreChecked inputs ls = controls_faults inputs ls ≡ []

-- a line more, where the model has ended then: the controls are checked, and the line says none
record IsCheckedBehind (c : Command) (k : Known) (before : List LexLine) (l : LexLine) : Type 0 where
  before_it : AreChecked (line_step c l k).inputs before
  here : control_faults_at c (line_step c l k).inputs l ≡ []

checked-by : (c : Command) (k : Known) (before : List LexLine) (l : LexLine) → line_faults c k before l ≡ [] → (line_step c l k).ended ≡ true
    → (k.ended ≡ true → AreChecked k.inputs before) → IsCheckedBehind c k before l
checked-by Model k before l none ended earlier = record { before_it = earlier ended; here = refl }
checked-by End k before l none ended earlier =
    let faults : end_faults l.number (first_word l) (behind_first l) ++ controls_faults k.inputs before ≡ [] = inside-none End k before l none in
    record { before_it = right-nothing (end_faults l.number (first_word l) (behind_first l)) (controls_faults k.inputs before) faults; here = refl }
checked-by c k before l none ended earlier = absurd (not-ended c k before l refl none ended)

-- the controls of lines are checked, where the model has ended in them
abbrev AreCheckedAtEnd : List LexLine → Type 0
AreCheckedAtEnd ls = (known ls).ended ≡ true → AreChecked (known ls).inputs ls

checked-next : (before : List LexLine) (l : LexLine) → line_faults (command_at l) (known before) before l ≡ [] → AreCheckedAtEnd before
    → AreCheckedAtEnd (before ++ l ∷ [])
checked-next before l none earlier ended =
    let k = known before in
    let c = command_at l in
    let push : known (before ++ l ∷ []) ≡ line_step c l k = known-push before l in
    let h = checked-by c k before l none (sym (ap (λ (x : Known). x.ended) push) ∙ ended) earlier in
    let inputs : List (List ℕ) = (line_step c l k).inputs in
    let at : LexLine → List BlifFault = λ x. control_faults_at (command_at x) inputs x in
    ap (λ (x : Known). controls_faults x.inputs (before ++ l ∷ [])) push
    ∙ (flat_map-append at before (l ∷ []) ∙ (λ i. h.before_it i ++ (h.here i ++ [])))

-- ---- to the end

end-checked : (k : Known) (ls : List LexLine) → file_faults k ls ≡ [] → (k.ended ≡ true → AreChecked k.inputs ls) → AreChecked k.inputs ls
end-checked k ls none earlier =
    ⊎_elim (λ (y : k.ended ≡ true). earlier y)
    (λ (n : k.ended ≡ false).
    ⊎_elim (λ (b : k.begun ≡ true). rw n at (rw b at none))
    (λ (b : k.begun ≡ false). let told : Line (NoModel 1) ∷ [] ≡ [] = rw b at none in cc)
    (cases_Bool k.begun))
    (cases_Bool k.ended)

walk : (before ls : List LexLine) → faults_behind before ls ≡ [] → AreCheckedAtEnd before → AreChecked (known (before ++ ls)).inputs (before ++ ls)
walk before [] none earlier = rw (append-nil before) (end-checked (known before) before none earlier)
walk before (l ∷ ls) none earlier =
    let here : line_faults (command_at l) (known before) before l ≡ [] =
    left-nothing (line_faults (command_at l) (known before) before l) (faults_behind (before ++ l ∷ []) ls) none in
    let rest = walk (before ++ l ∷ []) ls (behind-none before l ls none) (checked-next before l here earlier) in
    rw (append_assoc before (l ∷ []) ls) at rest

controls-none : (lines : List LexLine) → faults_of lines ≡ [] → controls_faults (inputs_of lines) lines ≡ []
unfolding faults_of known
controls-none lines none = walk [] lines none (λ ended. absurd (false≢true ended))

-- ---- each control

-- the control of a line is one of these inputs
abbrev pub IsControlled : List (List ℕ) → LexLine → Type 0
IsControlled inputs l = (w : List ℕ) → (settings_at l).control ≡ Some w → among w inputs ≡ true

controls-here : (inputs : List (List ℕ)) (c : Command) (l : LexLine)
    → control_faults_at c inputs l ≡ at_latch (λ x. control_faults x.number inputs (settings_at x).control) c l
controls-here inputs Latch l = refl
controls-here inputs _ l = refl

controls-said : (inputs : List (List ℕ)) (ls : List LexLine)
    → controls_faults inputs ls ≡ said_of (λ x. control_faults x.number inputs (settings_at x).control) ls
controls-said inputs [] = refl
controls-said inputs (l ∷ ls) = λ i. controls-here inputs (command_at l) l i ++ controls-said inputs ls i

among-control : (n : ℕ) (inputs : List (List ℕ)) (o : Option (List ℕ)) (w : List ℕ) → control_faults n inputs o ≡ [] → o ≡ Some w → among w inputs ≡ true
among-control n inputs None w none e = cc
among-control n inputs (Some u) w none e =
    let same : u ≡ w = cc in
    ap (λ v. among v inputs) (sym same) ∙ not-false (among u inputs) (when-nothing (not (among u inputs)) (BadLatch n u) none)

each-controlled : (inputs : List (List ℕ)) (ls : List LexLine) → flat_map (λ x. control_faults x.number inputs (settings_at x).control) ls ≡ []
    → All (IsControlled inputs) ls
each-controlled inputs [] none = All-nil (IsControlled inputs)
each-controlled inputs (l ∷ ls) none =
    let said : LexLine → List BlifFault = λ x. control_faults x.number inputs (settings_at x).control in
    All-cons (IsControlled inputs) l ls
    (λ w e. among-control l.number inputs (settings_at l).control w (left-nothing (said l) (flat_map said ls) none) e)
    (each-controlled inputs ls (right-nothing (said l) (flat_map said ls) none))

pub all-controlled : (lines : List LexLine) → faults_of lines ≡ [] → All (IsControlled (inputs_of lines)) (latch_lines lines)
all-controlled lines none =
    let inputs : List (List ℕ) = inputs_of lines in
    let said : LexLine → List BlifFault = λ x. control_faults x.number inputs (settings_at x).control in
    each-controlled inputs (latch_lines lines)
    (sym (controls-said inputs lines ∙ said-each said lines) ∙ controls-none lines none)

-- Walks along lines within a model: each line's faults pass a test, and the model stays open.
use Rattle.std.proofs.Common.{◌≡◌, ◌∙◌, ℕ, ◌+◌, zero, suc, Bool, true, false, not, List, [], ◌∷◌, ◌++◌, length, refl, sym, ap, subst, append_assoc, append-nil, slice_get, Some}
use Rattle.std.specs.List.{list_all, flat_map}
use Rattle.std.proofs.lemmas.Bool.{and_from, cond-true, cond-false}
use Rattle.std.proofs.lemmas.List.Folds.{list_all-append}
use Rattle.std.proofs.lemmas.Grind.{flat_map-append}
use Rattle.mv_lex.specs.declared.lines.LexLine.{LexLine}
use Rattle.mv_lines_back.specs.TextWords.{lines_from}
use Rattle.mv_lines_back.proofs.LinesFrom.{lines_from-append}
use Rattle.mv_blif_line.specs.declared.command.Command.{Command}
use Rattle.mv_blif_line.specs.declared.command.Command.TheVariants.{Names, Latch, Row}
use Rattle.mv_blif_line.specs.declared.fault.BlifFault.{BlifFault}
use Rattle.mv_blif_line.specs.Commands.{command_at, is_model}
use Rattle.mv_blif.specs.declared.known.Known.{Known}
use Rattle.mv_blif.specs.Known.{known}
use Rattle.mv_blif.specs.Grammar.{control_faults_at, controls_faults, inside_faults, is_open, line_faults, file_faults, faults_behind}
use Rattle.mv_blif.specs.Steps.{line_step}
use Rattle.mv_blif.proofs.Knowns.{known-push}

-- ---- faults, but for those of the end of the file

abbrev pub told : List LexLine → List LexLine → List BlifFault
told before [] = []
told before (l ∷ ls) = line_faults (command_at l) (known before) before l ++ told (before ++ l ∷ []) ls

told-append : (before a b : List LexLine) → told before (a ++ b) ≡ told before a ++ told (before ++ a) b
told-append before [] b = ap (λ x. told x b) (sym (append-nil before))
told-append before (l ∷ a) b =
    let here = line_faults (command_at l) (known before) before l in
    ap (λ fs. here ++ fs) (told-append (before ++ l ∷ []) a b ∙ ap (λ x. told (before ++ l ∷ []) a ++ told x b) (append_assoc before (l ∷ []) a))
    ∙ sym (append_assoc here (told (before ++ l ∷ []) a) (told (before ++ l ∷ a) b))

pub told-behind : (before ls : List LexLine) → faults_behind before ls ≡ told before ls ++ file_faults (known (before ++ ls)) (before ++ ls)
told-behind before [] = ap (λ x. file_faults (known x) x) (sym (append-nil before))
told-behind before (l ∷ ls) =
    let here = line_faults (command_at l) (known before) before l in
    ap (λ fs. here ++ fs) (told-behind (before ++ l ∷ []) ls ∙ ap (λ x. told (before ++ l ∷ []) ls ++ file_faults (known x) x) (append_assoc before (l ∷ []) ls))
    ∙ sym (append_assoc here (told (before ++ l ∷ []) ls) (file_faults (known (before ++ l ∷ ls)) (before ++ l ∷ ls)))

-- ---- what is known within a model

-- the model is open, and has these inputs
pub record IsIn (ins : List (List ℕ)) (k : Known) : Type 0 where
  pub begun : k.begun ≡ true
  pub ended : k.ended ≡ false
  pub inputs : k.inputs ≡ ins

pub opened : (ins : List (List ℕ)) (k : Known) → IsIn ins k → is_open k ≡ true
opened ins k is = and_from k.begun (not k.ended) is.begun (ap not is.ended)

pub pushed : (c : Command) (before : List LexLine) (l : LexLine) → command_at l ≡ c → known (before ++ l ∷ []) ≡ line_step c l (known before)
pushed c before l is = known-push before l ∙ ap (λ x. line_step x l (known before)) is

pub inside-line : (c : Command) (k : Known) (before : List LexLine) (l : LexLine) → is_model c ≡ false → is_open k ≡ true → line_faults c k before l ≡ inside_faults c k before l
unfolding line_faults
inside-line c k before l other o = cond-false (is_model c) _ _ other ∙ cond-true (is_open k) _ _ o

-- a command that leaves the model as it is
abbrev pub Stays : Command → Type 0
Stays c = (ins : List (List ℕ)) (l : LexLine) (k : Known) → IsIn ins k → IsIn ins (line_step c l k)

pub stays-latch : Stays Latch
stays-latch ins l k is = record { begun = is.begun; ended = is.ended; inputs = is.inputs }

pub stays-names : Stays Names
stays-names ins l k is = record { begun = is.begun; ended = is.ended; inputs = is.inputs }

pub stays-row : Stays Row
stays-row ins l k is = record { begun = is.begun; ended = is.ended; inputs = is.inputs }

-- ---- walks

-- the faults of lines behind others pass the test, the model stays open, and each control is an input
pub record Walks (p : BlifFault → Bool) (ins : List (List ℕ)) (before ls : List LexLine) : Type 0 where
  pub passes : list_all p (told before ls) ≡ true
  pub after : IsIn ins (known (before ++ ls))
  pub controls : controls_faults ins ls ≡ []

module _ (p : BlifFault → Bool) (ins : List (List ℕ)) where
  pub walks-none : (before : List LexLine) → IsIn ins (known before) → Walks p ins before []
  walks-none before is = record { passes = refl; after = subst (λ (x : List LexLine). IsIn ins (known x)) (sym (append-nil before)) is; controls = refl }

  pub walks-one : (c : Command) (before : List LexLine) (l : LexLine) → IsIn ins (known before) → command_at l ≡ c → is_model c ≡ false → Stays c
      → list_all p (inside_faults c (known before) before l) ≡ true → control_faults_at c ins l ≡ [] → Walks p ins before (l ∷ [])
  walks-one c before l is at other stays pass control =
      let faults : line_faults (command_at l) (known before) before l ≡ inside_faults c (known before) before l = ap (λ x. line_faults x (known before) before l) at ∙ inside-line c (known before) before l other (opened ins (known before) is) in
      record {
        passes = ap (list_all p) (append-nil (line_faults (command_at l) (known before) before l) ∙ faults) ∙ pass;
        after = subst (IsIn ins) (sym (pushed c before l at)) (stays ins l (known before) is);
        controls = append-nil (control_faults_at (command_at l) ins l) ∙ (ap (λ x. control_faults_at x ins l) at ∙ control);
      }

  pub walks-append : (before a b : List LexLine) → Walks p ins before a → Walks p ins (before ++ a) b → Walks p ins before (a ++ b)
  walks-append before a b wa wb = record {
    passes = ap (list_all p) (told-append before a b) ∙ (list_all-append p (told before a) (told (before ++ a) b) ∙ and_from _ _ wa.passes wb.passes);
    after = subst (λ (x : List LexLine). IsIn ins (known x)) (append_assoc before a b) wb.after;
    controls = flat_map-append (λ (l : LexLine). control_faults_at (command_at l) ins l) a b ∙ (ap (λ fs. fs ++ controls_faults ins b) wa.controls ∙ wb.controls);
  }

  -- lines that can be walked wherever the model is open
  abbrev pub WalksFrom : List (List (List ℕ)) → Type 0
  WalksFrom ls = (before : List LexLine) (n : ℕ) → IsIn ins (known before) → Walks p ins before (lines_from n ls)

  pub from-append : (a b : List (List (List ℕ))) → WalksFrom a → WalksFrom b → WalksFrom (a ++ b)
  from-append a b wa wb before n is =
      let first = wa before n is in
      let P : List LexLine → Type 0 = λ ls. Walks p ins before ls in
      subst P (sym (lines_from-append n a b)) (walks-append before (lines_from n a) (lines_from (n + length a) b) first (wb (before ++ lines_from n a) (n + length a) first.after))

  pub from-none : WalksFrom []
  from-none before n is = walks-none before is

  pub from-each : {X : Type 0} (f : X → List (List (List ℕ))) (xs : List X) → ((k : ℕ) (x : X) → slice_get xs k ≡ Some x → WalksFrom (f x)) → WalksFrom (flat_map f xs)
  from-each f [] each = from-none
  from-each f (x ∷ xs) each = from-append (f x) (flat_map f xs) (each zero x refl) (from-each f xs (λ k y h. each (suc k) y h))

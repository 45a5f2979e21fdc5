-- There is room for the models of lines without a fault: no more than there may be, and each of a new name.
use Rattle.std.proofs.Common.{◌≡◌, ℕ, ◌+◌, ◌<◌, ◌≤◌, true, false, not, List, [], ◌∷◌, ◌++◌, length, length-append, refl, sym, ap, ◌∙◌, ⊎_elim, arith}
use Rattle.std.specs.Prelude.{Option, Some, None, option_map, nat_le, nat_lt}
use Rattle.std.proofs.lemmas.Bool.{cases_Bool}
use Rattle.mv_base.specs.Names.{among, is_model_name}
use Rattle.mv_base.specs.declared.limits.TheConstants.{MAX_MODELS}
use Rattle.mv_lex.specs.declared.lines.LexLine.{LexLine}
use Rattle.mv_fault.specs.declared.fault.Which.TheVariants.{Models}
use Rattle.mv_fault.specs.declared.fault.ParseFault.TheVariants.{Limit, BadName, ModelTwice, Extra}
use Rattle.mv_fault.specs.Tells.{when}
use Rattle.mv_fault.proofs.Nothing.{left-nothing, right-nothing, when-nothing}
use Rattle.mv_line.specs.Words.{behind_first, first_of, first_word}
use Rattle.mv_parse.specs.declared.command.Command.{Command}
use Rattle.mv_parse.specs.declared.command.Command.TheVariants.{Inputs, Outputs, Mv, Table, Latch, Reset, Default, Row}
use Rattle.mv_parse.specs.declared.known.OpenModel.{OpenModel}
use Rattle.mv_parse.specs.declared.known.Known.{Known}
use Rattle.mv_parse.specs.Commands.{is_model, is_end, is_root}
use Rattle.mv_parse.specs.Grammar.{model_name_faults, model_faults, unended_faults, line_faults}
use Rattle.mv_parse.specs.Steps.{new_model, with_no_table, inside_step, body_step, line_step, CanEnd, HasRoom}
use Rattle.mv_parse.proofs.Narrows.{few}

-- what is not at the limit is below it
below : (m n : ℕ) → nat_le m n ≡ false → n < m
below m n e = let h : n + 1 ≤ m = few m n e in omega arith

-- a name without a fault is new
name-new : (n : ℕ) (word : List ℕ) (names words : List (List ℕ)) → model_name_faults n word names words ≡ [] → among (first_of words) names ≡ false
name-new n word names [] none = cc
name-new n word names (w ∷ words) none =
    let bad = when (not (is_model_name w)) (BadName n w) in
    let twice = when (among w names) (ModelTwice n w) in
    let front : bad ++ twice ≡ [] = left-nothing (bad ++ twice) (when (nat_lt 0 (length words)) (Extra n word)) none in
    when-nothing (among w names) (ModelTwice n w) (right-nothing bad twice front)

-- a model that begins can end
model-can : (l : LexLine) (names : List (List ℕ)) → model_faults l.number (first_word l) names (behind_first l) ≡ [] → CanEnd names (new_model l)
unfolding model_faults
model-can l names none =
    let many = when (nat_le MAX_MODELS (length names)) (Limit l.number Models (MAX_MODELS + 1)) in
    let named = model_name_faults l.number (first_word l) names (behind_first l) in
    record {
      new = name-new l.number (first_word l) names (behind_first l) (right-nothing many named none);
      room = below MAX_MODELS (length names) (when-nothing _ _ (left-nothing many named none));
    }

-- lines within a model leave its name
step-name : (c : Command) (l : LexLine) (m : OpenModel) → (inside_step c l m).name ≡ m.name
step-name Inputs l m = refl
step-name Outputs l m = refl
step-name Mv l m = refl
step-name Table l m = refl
step-name Latch l m = refl
step-name Reset l m = refl
step-name Default l m = refl
step-name Row l m = refl
step-name _ l m = refl

-- a model of the same name can end too
same-can : (names : List (List ℕ)) (m n : OpenModel) → n.name ≡ m.name → CanEnd names m → CanEnd names n
same-can names m n e h = record { new = ap (λ w. among w names) e ∙ h.new; room = h.room }

-- ---- what is known behind one more line has room

with-open : (k : Known) (o : OpenModel) → length k.names ≤ MAX_MODELS → CanEnd k.names o → HasRoom (record k { inside = Some o })
with-open k o few can = record { few = few; opened = λ m e. let same : o ≡ m = cc in rw (← same) can }

root-opened : (o : Option OpenModel) (names : List (List ℕ)) → ((m : OpenModel) → o ≡ Some m → CanEnd names m) → (n : OpenModel)
    → option_map with_no_table o ≡ Some n → CanEnd names n
root-opened None names can n e = cc
root-opened (Some m) names can n e =
    let same : with_no_table m ≡ n = cc in
    same-can names m n (ap (λ (x : OpenModel). x.name) (sym same)) (can m refl)

body-room : (c : Command) (k : Known) (o : Option OpenModel) (ls : List LexLine) (l : LexLine) → k.inside ≡ o → HasRoom k → HasRoom (body_step c k o ls l)
body-room c k None ls l e h = h
body-room c k (Some m) ls l e h =
    let can : CanEnd k.names m = h.opened m e in
    ⊎_elim
    (λ (y : is_end c ≡ true).
    let size : length (k.names ++ m.name ∷ []) ≡ length k.names + 1 = simp length-append in
    let room = can.room in
    rw y (record { few = omega arith; opened = λ n f. cc }))
    (λ (n : is_end c ≡ false). rw n (with-open k (inside_step c l m) h.few (same-can k.names m (inside_step c l m) (step-name c l m) can)))
    (cases_Bool (is_end c))

pub line-room : (c : Command) (k : Known) (ls : List LexLine) (l : LexLine) → HasRoom k → line_faults c k ls l ≡ [] → HasRoom (line_step c k ls l)
unfolding line_faults line_step
line-room c k ls l h none =
    ⊎_elim
    (λ (y : is_model c ≡ true).
    let begins : unended_faults k.inside ++ model_faults l.number (first_word l) k.names (behind_first l) ≡ [] = rw y at none in
    rw y (with-open k (new_model l) h.few (model-can l k.names (right-nothing (unended_faults k.inside) _ begins))))
    (λ (n : is_model c ≡ false).
    ⊎_elim
    (λ (y : is_root c ≡ true). rw (n, y) (record { few = h.few; opened = root-opened k.inside k.names h.opened }))
    (λ (m : is_root c ≡ false). rw (n, m) (body-room c k k.inside ls l refl h))
    (cases_Bool (is_root c)))
    (cases_Bool (is_model c))

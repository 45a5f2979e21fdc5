-- Lines without a fault, whose numbers ascend, say a proper design.
use Rattle.std.proofs.Common.{◌≡◌, ◌≢◌, ℕ, ◌<◌, true, false, ◌==◌, List, [], ◌∷◌, ◌++◌, length, append_assoc, refl, sym, subst, ◌∙◌, ⊎_elim, arith}
use Rattle.std.specs.Prelude.{All, Option, Some, None, nat_lt, not}
use Rattle.std.proofs.lemmas.Bool.{cases_Bool, eqb-false, not-false}
use Rattle.std.proofs.lemmas.List.{append-nil, map-append, length-map}
use Rattle.std.proofs.lemmas.List.Elements.{All-nil, All-push}
use Rattle.mv_base.specs.Names.{among, names_differ}
use Rattle.mv_base.proofs.NameLemmas.{IsPlace-from_among, differ-push}
use Rattle.mv_lex.specs.declared.lines.LexLine.{LexLine}
use Rattle.mv_design.specs.declared.design.FileModel.{FileModel}
use Rattle.mv_design.specs.declared.design.Design.{Design}
use Rattle.mv_line.specs.Words.{behind_first, first_word}
use Rattle.mv_fault.specs.declared.fault.ParseFault.TheVariants.{Extra, RootFault, NoModel}
use Rattle.mv_fault.specs.Tells.{when}
use Rattle.mv_fault.proofs.Nothing.{left-nothing, right-nothing, when-nothing}
use Rattle.mv_parse.specs.declared.command.Command.{Command}
use Rattle.mv_parse.specs.declared.command.Command.TheVariants.{End, Root as NamesRoot}
use Rattle.mv_parse.specs.declared.known.OpenModel.{OpenModel}
use Rattle.mv_parse.specs.declared.known.Root.{Root}
use Rattle.mv_parse.specs.declared.known.Known.{Known}
use Rattle.mv_parse.specs.Commands.{command_at, is_model, is_end, is_root}
use Rattle.mv_parse.specs.Known.{says_root, decls_of, open_part, open_model, open_of, file_model, model_said, models_of, model_names, known}
use Rattle.mv_parse.specs.Grammar.{model_faults, tables_faults, end_faults, inside_faults, body_faults, unended_faults, line_faults, behind_model, faults_at, lost_faults, last_faults, file_faults, faults_behind, faults_of, is_limit, root_place, design_of, IsDesign, AreWithinLimits}
use Rattle.mv_parse.specs.Steps.{CanEnd, HasRoom}
use Rattle.mv_parse.proofs.Parts.{opened_with, open_part-more, open_part-end}
use Rattle.mv_parse.proofs.Knowns.{model-no_root, outside-none, models-end, models-more, known-push}
use Rattle.mv_parse.proofs.Rooms.{line-room}
use Rattle.mv_design.specs.Proper.{numbers_ascend, IsProperModel, IsProper}
use Rattle.mv_parse_laws.specs.Lines.{numbers_of}
use Rattle.mv_parse_laws.proofs.Ascending.{ascend-tail, ascend-front, ascend-behind}
use Rattle.mv_parse_laws.proofs.Nothing.{filters-nothing}
use Rattle.mv_parse_laws.proofs.Ports.{model-named}
use Rattle.mv_parse_laws.proofs.Models.{IsOpen, IsOpen-new, IsOpen-push, IsOpen-proper}

-- ---- the numbers of lines

numbers-append : (ls more : List LexLine) → numbers_of (ls ++ more) ≡ numbers_of ls ++ numbers_of more
numbers-append ls more = map-append (λ (l : LexLine). l.number) ls more

numbers-front : (ls more : List LexLine) → numbers_ascend (numbers_of (ls ++ more)) ≡ true → numbers_ascend (numbers_of ls) ≡ true
numbers-front ls more up = ascend-front (numbers_of ls) (numbers_of more) (rw numbers-append at up)

numbers-behind : (ls more : List LexLine) → numbers_ascend (numbers_of (ls ++ more)) ≡ true → numbers_ascend (numbers_of more) ≡ true
numbers-behind ls more up = ascend-behind (numbers_of ls) (numbers_of more) (rw numbers-append at up)

-- those of the open part and of what comes, with one more line read
numbers-opened : (part : List LexLine) (l : LexLine) (rest : List LexLine) → numbers_ascend (numbers_of (part ++ l ∷ rest)) ≡ true
    → numbers_ascend (numbers_of (opened_with part l ++ rest)) ≡ true
numbers-opened [] l rest up =
    ⊎_elim
    (λ (y : says_root l ≡ true). rw y (ascend-tail l.number (numbers_of rest) up))
    (λ (n : says_root l ≡ false). rw n up)
    (cases_Bool (says_root l))
numbers-opened (m ∷ ls) l rest up = rw (append_assoc ls (l ∷ []) rest) up

numbers-next : (before : List LexLine) (l : LexLine) (rest : List LexLine) → numbers_ascend (numbers_of (open_part before ++ l ∷ rest)) ≡ true → numbers_ascend (numbers_of (open_part (before ++ l ∷ []) ++ rest)) ≡ true
numbers-next before l rest up =
    ⊎_elim
    (λ (y : is_end (command_at l) ≡ true). rw (open_part-end before l y) (ascend-tail l.number (numbers_of rest) (numbers-behind (open_part before) (l ∷ rest) up)))
    (λ (n : is_end (command_at l) ≡ false). rw (open_part-more before l n) (numbers-opened (open_part before) l rest up))
    (cases_Bool (is_end (command_at l)))

-- ---- what stands along the lines

-- what is open stands
abbrev Stands : List LexLine → Type 0
Stands [] = Unit {0}
Stands (m ∷ ls) = IsOpen m ls

-- along the lines: the models that have ended, no two of one name, and the lines of the open one
record IsAlong (models : List FileModel) (part : List LexLine) : Type 0 where
  proper : All IsProperModel models
  differ : names_differ (model_names models) ≡ true
  opened : Stands part

-- ---- one more line, which ends no model

-- it begins one
stands-model : (k : Known) (part : List LexLine) (l : LexLine) → k.inside ≡ open_of part → is_model (command_at l) ≡ true
    → line_faults (command_at l) k (behind_model part) l ≡ [] → Stands (opened_with part l)
unfolding line_faults
stands-model k [] l is y none =
    let begins : unended_faults k.inside ++ model_faults l.number (first_word l) k.names (behind_first l) ≡ [] = rw y at none in
    let named = model-named l.number (first_word l) k.names (behind_first l) (right-nothing (unended_faults k.inside) _ begins) in
    rw (model-no_root (command_at l) y) (IsOpen-new l named)
stands-model k (m ∷ ls) l is y none =
    let begins : unended_faults (open_of (m ∷ ls)) ++ model_faults l.number (first_word l) k.names (behind_first l) ≡ [] = rw (y, is) at none in
    cc

-- it names the root
root-inside : (c : Command) (m : OpenModel) (l : LexLine) → is_root c ≡ true → inside_faults c m l ≡ []
root-inside NamesRoot m l y = refl
root-inside _ m l y = cc

stands-root : (part : List LexLine) (l : LexLine) → Stands part → is_root (command_at l) ≡ true → Stands (opened_with part l)
stands-root [] l h y = rw y tt
stands-root (m ∷ ls) l h y = IsOpen-push m ls l h (root-inside (command_at l) (open_model m ls) l y)

-- it stands in a model
stands-body : (part : List LexLine) (l : LexLine) → Stands part → is_end (command_at l) ≡ false
    → body_faults (command_at l) (open_of part) (behind_model part) l ≡ [] → Stands (opened_with part l)
stands-body [] l h n none = absurd (outside-none (command_at l) l none)
stands-body (m ∷ ls) l h n none = IsOpen-push m ls l h (rw n at none)

stands-more : (k : Known) (part : List LexLine) (l : LexLine) → k.inside ≡ open_of part → Stands part → is_end (command_at l) ≡ false
    → line_faults (command_at l) k (behind_model part) l ≡ [] → Stands (opened_with part l)
unfolding line_faults
stands-more k part l is h n none =
    ⊎_elim
    (λ (y : is_model (command_at l) ≡ true). stands-model k part l is y none)
    (λ (no_model : is_model (command_at l) ≡ false).
    ⊎_elim
    (λ (y : is_root (command_at l) ≡ true). stands-root part l h y)
    (λ (no_root : is_root (command_at l) ≡ false). stands-body part l h n (rw (no_model, no_root, is) at none))
    (cases_Bool (is_root (command_at l))))
    (cases_Bool (is_model (command_at l)))

-- ---- one that ends a model

ends-body : (c : Command) (k : Known) (ls : List LexLine) (l : LexLine) → is_end c ≡ true → line_faults c k ls l ≡ body_faults c k.inside ls l
unfolding line_faults
ends-body End k ls l y = refl
ends-body _ k ls l y = cc

-- the model that is open can end behind those of these models
abbrev CanAllEnd : List FileModel → List LexLine → Type 0
CanAllEnd models part = (m : OpenModel) → open_of part ≡ Some m → CanEnd (model_names models) m

along-end : (models : List FileModel) (part : List LexLine) (l : LexLine) → IsAlong models part → CanAllEnd models part → numbers_ascend (numbers_of part) ≡ true
    → is_end (command_at l) ≡ true → body_faults (command_at l) (open_of part) (behind_model part) l ≡ [] → IsAlong (models ++ model_said part) []
unfolding end_faults
along-end models [] l h can up y none = absurd (outside-none (command_at l) l none)
along-end models (m ∷ ls) l h can up y none =
    let new : FileModel = file_model (open_model m ls) ls in
    let ends : end_faults l.number (first_word l) (behind_first l) (decls_of ls) ls ≡ [] = rw y at none in
    let extra = when (nat_lt 0 (length (behind_first l))) (Extra l.number (first_word l)) in
    let values : tables_faults (decls_of ls) ls ≡ [] = right-nothing extra (tables_faults (decls_of ls) ls) ends in
    let differ = differ-push (model_names models) new.name h.differ (can (open_model m ls) refl).new in
    let names : model_names (models ++ new ∷ []) ≡ model_names models ++ new.name ∷ [] = map-append (λ (f : FileModel). f.name) models (new ∷ []) in
    record {
      proper = All-push IsProperModel models new h.proper (IsOpen-proper m ls h.opened up values);
      differ = rw names differ;
      opened = tt;
    }

-- ---- all lines

abbrev Along : List LexLine → Type 0
Along before = IsAlong (models_of before) (open_part before)

along-next : (before : List LexLine) (l : LexLine) → Along before → HasRoom (known before) → numbers_ascend (numbers_of (open_part before)) ≡ true → faults_at before l ≡ [] → Along (before ++ l ∷ [])
unfolding known
along-next before l h room up none =
    let part : List LexLine = open_part before in
    ⊎_elim
    (λ (y : is_end (command_at l) ≡ true).
    rw (models-end before l y, open_part-end before l y)
    (along-end (models_of before) part l h room.opened up y (sym (ends-body (command_at l) (known before) (behind_model part) l y) ∙ none)))
    (λ (n : is_end (command_at l) ≡ false).
    rw (models-more before l n, open_part-more before l n)
    (record { proper = h.proper; differ = h.differ; opened = stands-more (known before) part l refl h.opened n none }))
    (cases_Bool (is_end (command_at l)))

room-next : (before : List LexLine) (l : LexLine) → HasRoom (known before) → faults_at before l ≡ [] → HasRoom (known (before ++ l ∷ []))
room-next before l room none =
    let body : List LexLine = behind_model (open_part before) in
    subst HasRoom (sym (known-push before l none)) (line-room (command_at l) (known before) body l room none)

-- at the end of the file all models are proper, no two have one name, and the root is one of them
record IsWhole (k : Known) : Type 0 where
  proper : All IsProperModel k.models
  differ : names_differ (model_names k.models) ≡ true
  root : root_place k.root k.names < length k.models

root-within : (root : Option Root) (names : List (List ℕ)) → 0 < length names → lost_faults root names ≡ [] → root_place root names < length names
root-within None names some none = some
root-within (Some r) names some none =
    let there : among r.name names ≡ true = not-false _ (when-nothing (not (among r.name names)) (RootFault r.line r.name) none) in
    let place = IsPlace-from_among r.name names there in
    rw place.1.place place.1.within

last-none : (o : Option OpenModel) (k : Known) → last_faults o k ≡ [] → when (length k.models == 0) (NoModel 1) ++ lost_faults k.root k.names ≡ []
last-none (Some m) k none = cc
last-none None k none = none

whole : (before : List LexLine) → Along before → file_faults (known before) ≡ [] → IsWhole (known before)
unfolding known
whole before h none =
    let k : Known = known before in
    let last = last-none k.inside k none in
    let missing = when (length k.models == 0) (NoModel 1) in
    let lost = lost_faults k.root k.names in
    let other : length k.models ≢ 0 = eqb-false (length k.models) 0 (when-nothing (length k.models == 0) (NoModel 1) (left-nothing missing lost last)) in
    let size : length k.names ≡ length k.models = simp length-map in
    let within : root_place k.root k.names < length k.names = root-within k.root k.names (omega arith) (right-nothing missing lost last) in
    record { proper = h.proper; differ = h.differ; root = omega arith }

walk : (before rest : List LexLine) → Along before → HasRoom (known before) → numbers_ascend (numbers_of (open_part before ++ rest)) ≡ true → faults_behind before rest ≡ []
    → IsWhole (known (before ++ rest))
walk before [] h room up none = let P : List LexLine → Type 0 = λ ls. IsWhole (known ls) in subst P (sym (append-nil before)) (whole before h none)
walk before (l ∷ rest) h room up none =
    let here : faults_at before l ≡ [] = left-nothing (faults_at before l) (faults_behind (before ++ l ∷ []) rest) none in
    let behind : faults_behind (before ++ l ∷ []) rest ≡ [] = right-nothing (faults_at before l) _ none in
    let P : List LexLine → Type 0 = λ ls. IsWhole (known ls) in
    subst P (append_assoc before (l ∷ []) rest)
    (walk (before ++ l ∷ []) rest (along-next before l h room (numbers-front (open_part before) (l ∷ rest) up) here) (room-next before l room here)
    (numbers-next before l rest up) behind)

nothing-read : Along []
nothing-read = record { proper = All-nil IsProperModel; differ = refl; opened = tt }

nothing-known : HasRoom (known [])
unfolding known
nothing-known = record { few = omega arith; opened = λ m e. cc }

lines-whole : (lines : List LexLine) → numbers_ascend (numbers_of lines) ≡ true → faults_of lines ≡ [] → IsWhole (known lines)
unfolding faults_of
lines-whole lines up none = walk [] lines nothing-read nothing-known up none

said-proper : (lines : List LexLine) → numbers_ascend (numbers_of lines) ≡ true → faults_of lines ≡ [] → IsProper (design_of lines)
unfolding design_of
said-proper lines up none =
    let w = lines-whole lines up none in
    record { models = w.proper; differ = w.differ; root = w.root }

-- lines that the grammar accepts, within the limits, have no fault
pub no-faults : (lines : List LexLine) (d : Design) → IsDesign lines d → AreWithinLimits lines → faults_of lines ≡ []
no-faults lines d is within = filters-nothing is_limit (faults_of lines) is.accepted within.within

pub proper : (lines : List LexLine) (d : Design) → numbers_ascend (numbers_of lines) ≡ true → IsDesign lines d → AreWithinLimits lines → IsProper d
proper lines d up is within = subst IsProper (sym is.is) (said-proper lines up (no-faults lines d is within))

-- What the lines say: what one more line, if it has no fault, adds to it.
use Rattle.std.proofs.Common.{◌≡◌, ℕ, true, false, List, [], ◌∷◌, ◌++◌, refl, ap, ◌∙◌, ⊎_elim}
use Rattle.std.specs.Prelude.{Option, Some, None, option_map}
use Rattle.std.specs.List.{flat_map}
use Rattle.std.proofs.lemmas.Bool.{cases_Bool}
use Rattle.std.proofs.lemmas.List.{append-nil, map-append}
use Rattle.std.proofs.lemmas.Grind.{flat_map-append}
use Rattle.mv_lex.specs.declared.lines.LexLine.{LexLine}
use Rattle.mv_design.specs.declared.design.FileModel.{FileModel}
use Rattle.mv_fault.specs.declared.fault.ParseFault.{ParseFault}
use Rattle.mv_fault.proofs.Nothing.{left-nothing}
use Rattle.mv_line.specs.Words.{behind_first, first_word}
use Rattle.mv_parse.specs.declared.command.Command.{Command}
use Rattle.mv_parse.specs.declared.command.Command.TheVariants.{Model, Inputs, Outputs, Mv, Table, Latch, Reset, Default, Row, End, Root as NamesRoot, Instance, Unknown}
use Rattle.mv_parse.specs.declared.known.Root.{Root}
use Rattle.mv_parse.specs.declared.known.Known.{Known}
use Rattle.mv_parse.specs.Commands.{command_at, is_model, is_end, is_root}
use Rattle.mv_parse.specs.Known.{root_said, first_root, ended_parts, open_part, open_model, open_of, file_model, model_said, models_of, model_names, known, inputs_of, outputs_of, instance_names_of}
use Rattle.mv_parse.specs.Grammar.{model_faults, root_faults, outside_faults, inside_faults, body_faults, unended_faults, line_faults, behind_model}
use Rattle.mv_parse.specs.Steps.{with_no_table, inside_step, body_step, line_step}
use Rattle.mv_parse.proofs.Opens.{inputs-push, outputs-push, decls-push, instance_names-push, open_table-row, open_table-default, open_table-table, open_table-reset, open_table-other}
use Rattle.mv_parse.proofs.Parts.{opened_with, open_part-more, ended_parts-more, open_part-end, ended_parts-end}
use Rattle.mv_parse.proofs.NamedRoots.{root-more, root-named, none-named}

-- a line within a model
model-inputs : (m : LexLine) (ls : List LexLine) (l : LexLine) → command_at l ≡ Inputs → open_model m (ls ++ l ∷ []) ≡ inside_step Inputs l (open_model m ls)
model-inputs m ls l e =
    rw (inputs-push ls l, outputs-push ls l, decls-push ls l, instance_names-push ls l, open_table-other ls l Inputs e refl refl, e, append-nil (outputs_of ls), append-nil (instance_names_of ls)) refl

model-outputs : (m : LexLine) (ls : List LexLine) (l : LexLine) → command_at l ≡ Outputs → open_model m (ls ++ l ∷ []) ≡ inside_step Outputs l (open_model m ls)
model-outputs m ls l e =
    rw (inputs-push ls l, outputs-push ls l, decls-push ls l, instance_names-push ls l, open_table-other ls l Outputs e refl refl, e, append-nil (inputs_of ls), append-nil (instance_names_of ls)) refl

model-mv : (m : LexLine) (ls : List LexLine) (l : LexLine) → command_at l ≡ Mv → open_model m (ls ++ l ∷ []) ≡ inside_step Mv l (open_model m ls)
model-mv m ls l e =
    rw (inputs-push ls l, outputs-push ls l, decls-push ls l, instance_names-push ls l, open_table-other ls l Mv e refl refl, e, append-nil (inputs_of ls), append-nil (outputs_of ls), append-nil (instance_names_of ls)) refl

model-table : (m : LexLine) (ls : List LexLine) (l : LexLine) → command_at l ≡ Table → open_model m (ls ++ l ∷ []) ≡ inside_step Table l (open_model m ls)
model-table m ls l e =
    rw (inputs-push ls l, outputs-push ls l, decls-push ls l, instance_names-push ls l, open_table-table ls l e, e, append-nil (inputs_of ls), append-nil (outputs_of ls), append-nil (instance_names_of ls)) refl

model-latch : (m : LexLine) (ls : List LexLine) (l : LexLine) → command_at l ≡ Latch → open_model m (ls ++ l ∷ []) ≡ inside_step Latch l (open_model m ls)
model-latch m ls l e =
    rw (inputs-push ls l, outputs-push ls l, decls-push ls l, instance_names-push ls l, open_table-other ls l Latch e refl refl, e, append-nil (inputs_of ls), append-nil (outputs_of ls), append-nil (instance_names_of ls)) refl

model-reset : (m : LexLine) (ls : List LexLine) (l : LexLine) → command_at l ≡ Reset → open_model m (ls ++ l ∷ []) ≡ inside_step Reset l (open_model m ls)
model-reset m ls l e =
    rw (inputs-push ls l, outputs-push ls l, decls-push ls l, instance_names-push ls l, open_table-reset ls l e, e, append-nil (inputs_of ls), append-nil (outputs_of ls), append-nil (instance_names_of ls)) refl

model-default : (m : LexLine) (ls : List LexLine) (l : LexLine) → command_at l ≡ Default → open_model m (ls ++ l ∷ []) ≡ inside_step Default l (open_model m ls)
model-default m ls l e =
    rw (inputs-push ls l, outputs-push ls l, decls-push ls l, instance_names-push ls l, open_table-default ls l e, e, append-nil (inputs_of ls), append-nil (outputs_of ls), append-nil (instance_names_of ls)) refl

model-row : (m : LexLine) (ls : List LexLine) (l : LexLine) → command_at l ≡ Row → open_model m (ls ++ l ∷ []) ≡ inside_step Row l (open_model m ls)
model-row m ls l e =
    rw (inputs-push ls l, outputs-push ls l, decls-push ls l, instance_names-push ls l, open_table-row ls l e, e, append-nil (inputs_of ls), append-nil (outputs_of ls), append-nil (instance_names_of ls)) refl

model-instance : (m : LexLine) (ls : List LexLine) (l : LexLine) → command_at l ≡ Instance → open_model m (ls ++ l ∷ []) ≡ inside_step Instance l (open_model m ls)
model-instance m ls l e =
    rw (inputs-push ls l, outputs-push ls l, decls-push ls l, instance_names-push ls l, open_table-other ls l Instance e refl refl, e, append-nil (inputs_of ls), append-nil (outputs_of ls)) refl

model-root : (m : LexLine) (ls : List LexLine) (l : LexLine) → command_at l ≡ NamesRoot → open_model m (ls ++ l ∷ []) ≡ with_no_table (open_model m ls)
model-root m ls l e =
    rw (inputs-push ls l, outputs-push ls l, decls-push ls l, instance_names-push ls l, open_table-other ls l NamesRoot e refl refl, e, append-nil (inputs_of ls), append-nil (outputs_of ls), append-nil (instance_names_of ls)) refl

-- a line that may stand in a model alone, and doesn't end it
model-body : (c : Command) (m : LexLine) (ls : List LexLine) (l : LexLine) → command_at l ≡ c → is_model c ≡ false → is_root c ≡ false → is_end c ≡ false
    → inside_faults c (open_model m ls) l ≡ [] → open_model m (ls ++ l ∷ []) ≡ inside_step c l (open_model m ls)
model-body Model m ls l e no_model no_root no_end h = cc
model-body Inputs m ls l e no_model no_root no_end h = model-inputs m ls l e
model-body Outputs m ls l e no_model no_root no_end h = model-outputs m ls l e
model-body Mv m ls l e no_model no_root no_end h = model-mv m ls l e
model-body Table m ls l e no_model no_root no_end h = model-table m ls l e
model-body Latch m ls l e no_model no_root no_end h = model-latch m ls l e
model-body Reset m ls l e no_model no_root no_end h = model-reset m ls l e
model-body Default m ls l e no_model no_root no_end h = model-default m ls l e
model-body Row m ls l e no_model no_root no_end h = model-row m ls l e
model-body End m ls l e no_model no_root no_end h = cc
model-body NamesRoot m ls l e no_model no_root no_end h = cc
model-body Instance m ls l e no_model no_root no_end h = model-instance m ls l e
model-body Unknown m ls l e no_model no_root no_end h = cc

-- ---- the commands apart

pub model-no_root : (c : Command) → is_model c ≡ true → is_root c ≡ false
model-no_root Model y = refl
model-no_root _ y = cc

pub model-no_end : (c : Command) → is_model c ≡ true → is_end c ≡ false
model-no_end Model y = refl
model-no_end _ y = cc

pub root-no_end : (c : Command) → is_root c ≡ true → is_end c ≡ false
root-no_end NamesRoot y = refl
root-no_end _ y = cc

root-no_model : (c : Command) → is_root c ≡ true → is_model c ≡ false
root-no_model NamesRoot y = refl
root-no_model _ y = cc

root-is : (c : Command) → is_root c ≡ true → c ≡ NamesRoot
root-is NamesRoot y = refl
root-is _ y = cc

-- a line that may stand in a model alone has a fault outside
pub outside-none : (c : Command) (l : LexLine) → outside_faults c l ≡ [] → ⊥
outside-none Unknown l none = cc
outside-none _ l none = cc

-- ---- what is known

-- what is known of models, of a root, and of the part that is open
abbrev pub said : List FileModel → Option Root → List LexLine → Known
said models root part = record { models = models; names = model_names models; root = root; inside = open_of part }

-- the models that have ended, behind the end of one more
pub models-end : (ls : List LexLine) (l : LexLine) → is_end (command_at l) ≡ true → models_of (ls ++ l ∷ []) ≡ models_of ls ++ model_said (open_part ls)
models-end ls l y =
    ap (flat_map model_said) (ended_parts-end ls l y)
    ∙ (flat_map-append model_said (ended_parts ls) (open_part ls ∷ [])
    ∙ ap (λ ms. models_of ls ++ ms) (append-nil (model_said (open_part ls))))

pub models-more : (ls : List LexLine) (l : LexLine) → is_end (command_at l) ≡ false → models_of (ls ++ l ∷ []) ≡ models_of ls
models-more ls l n = ap (flat_map model_said) (ended_parts-more ls l n)

-- a line that begins a model
said-model : (part : List LexLine) (l : LexLine) → is_model (command_at l) ≡ true → unended_faults (open_of part) ≡ []
    → open_of (opened_with part l) ≡ Some (open_model l [])
said-model [] l y none = rw (model-no_root (command_at l) y) refl
said-model (m ∷ ls) l y none = cc

-- one that names the root
said-root : (part : List LexLine) (l : LexLine) → is_root (command_at l) ≡ true → open_of (opened_with part l) ≡ option_map with_no_table (open_of part)
said-root [] l y = rw y refl
said-root (m ∷ ls) l y = ap Some (model-root m ls l (root-is (command_at l) y))

-- one within a model
said-body : (k : Known) (part : List LexLine) (l : LexLine) → k.inside ≡ open_of part → is_model (command_at l) ≡ false → is_root (command_at l) ≡ false
    → is_end (command_at l) ≡ false → body_faults (command_at l) (open_of part) (behind_model part) l ≡ []
    → record k { inside = open_of (opened_with part l) } ≡ body_step (command_at l) k (open_of part) (behind_model part) l
said-body k [] l is no_model no_root no_end none = absurd (outside-none (command_at l) l none)
said-body k (m ∷ ls) l is no_model no_root no_end none =
    rw no_end (ap (λ o. record k { inside = Some o }) (model-body (command_at l) m ls l refl no_model no_root no_end (rw no_end at none)))

-- one that ends it
said-end : (models : List FileModel) (root : Option Root) (part : List LexLine) (l : LexLine) → is_end (command_at l) ≡ true
    → body_faults (command_at l) (open_of part) (behind_model part) l ≡ []
    → said (models ++ model_said part) root [] ≡ body_step (command_at l) (said models root part) (open_of part) (behind_model part) l
said-end models root [] l y none = absurd (outside-none (command_at l) l none)
said-end models root (m ∷ ls) l y none =
    let new : FileModel = file_model (open_model m ls) ls in
    let name : List ℕ = (open_model m ls).name in
    let names : model_names (models ++ new ∷ []) ≡ model_names models ++ name ∷ [] = map-append (λ (f : FileModel). f.name) models (new ∷ []) in
    rw y (ap (λ ns. record { models = models ++ new ∷ []; names = ns; root = root; inside = None }) names)

-- ---- one more line

known-model : (ls : List LexLine) (l : LexLine) → is_model (command_at l) ≡ true → is_end (command_at l) ≡ false
    → line_faults (command_at l) (known ls) (behind_model (open_part ls)) l ≡ []
    → known (ls ++ l ∷ []) ≡ line_step (command_at l) (known ls) (behind_model (open_part ls)) l
unfolding known line_faults line_step
known-model ls l y no_end none =
    let named : List ParseFault = model_faults l.number (first_word l) (model_names (models_of ls)) (behind_first l) in
    let begins : unended_faults (open_of (open_part ls)) ++ named ≡ [] = rw y at none in
    let outside : unended_faults (open_of (open_part ls)) ≡ [] = left-nothing _ named begins in
    rw (models-more ls l no_end, open_part-more ls l no_end, root-more ls l (model-no_root (command_at l) y), y)
    (ap (λ o. record { models = models_of ls; names = model_names (models_of ls); root = first_root ls; inside = o }) (said-model (open_part ls) l y outside))

known-root : (ls : List LexLine) (l : LexLine) → is_root (command_at l) ≡ true → is_end (command_at l) ≡ false
    → line_faults (command_at l) (known ls) (behind_model (open_part ls)) l ≡ []
    → known (ls ++ l ∷ []) ≡ line_step (command_at l) (known ls) (behind_model (open_part ls)) l
unfolding known line_faults line_step
known-root ls l y no_end none =
    let no_model = root-no_model (command_at l) y in
    let fault_free : root_faults l.number (first_word l) (first_root ls) (behind_first l) ≡ [] = rw (no_model, y) at none in
    let first = none-named l.number (first_word l) (first_root ls) (behind_first l) fault_free in
    rw (models-more ls l no_end, open_part-more ls l no_end, root-named ls l y first, no_model, y)
    (ap (λ o. record { models = models_of ls; names = model_names (models_of ls); root = Some (root_said l); inside = o }) (said-root (open_part ls) l y))

known-body : (ls : List LexLine) (l : LexLine) → is_model (command_at l) ≡ false → is_root (command_at l) ≡ false
    → line_faults (command_at l) (known ls) (behind_model (open_part ls)) l ≡ []
    → known (ls ++ l ∷ []) ≡ line_step (command_at l) (known ls) (behind_model (open_part ls)) l
unfolding known line_faults line_step
known-body ls l no_model no_root none =
    let body : body_faults (command_at l) (open_of (open_part ls)) (behind_model (open_part ls)) l ≡ [] = rw (no_model, no_root) at none in
    ⊎_elim
    (λ (y : is_end (command_at l) ≡ true).
    rw (models-end ls l y, open_part-end ls l y, root-more ls l no_root, no_model, no_root) (said-end (models_of ls) (first_root ls) (open_part ls) l y body))
    (λ (n : is_end (command_at l) ≡ false).
    rw (models-more ls l n, open_part-more ls l n, root-more ls l no_root, no_model, no_root)
    (said-body (known ls) (open_part ls) l refl no_model no_root n body))
    (cases_Bool (is_end (command_at l)))

pub known-push : (ls : List LexLine) (l : LexLine) → line_faults (command_at l) (known ls) (behind_model (open_part ls)) l ≡ []
    → known (ls ++ l ∷ []) ≡ line_step (command_at l) (known ls) (behind_model (open_part ls)) l
known-push ls l none =
    ⊎_elim
    (λ (y : is_model (command_at l) ≡ true). known-model ls l y (model-no_end (command_at l) y) none)
    (λ (n : is_model (command_at l) ≡ false).
    ⊎_elim
    (λ (y : is_root (command_at l) ≡ true). known-root ls l y (root-no_end (command_at l) y) none)
    (λ (m : is_root (command_at l) ≡ false). known-body ls l n m none)
    (cases_Bool (is_root (command_at l))))
    (cases_Bool (is_model (command_at l)))

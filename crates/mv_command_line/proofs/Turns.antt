-- What clap makes of a word, by how it looks.
use Rattle.std.proofs.Common.{◌≡◌, ◌∙◌, ℕ, ◌+◌, Bool, true, false, cond, List, [], ◌∷◌, Option, Some, None, inl, inr, codes, refl, sym, ap}
use Rattle.std.specs.Prelude.{min}
use Rattle.std.specs.Option.{option_map_or}
use Rattle.std.specs.Str.{bytes_eq}
use Rattle.std.proofs.lemmas.Bool.{and_right}
use Rattle.std.proofs.Math.Bool.{or-false}
use Rattle.clap.specs.Kinds.{Kinds}
use Rattle.clap.specs.Lexer.{usize_max}
use Rattle.clap.specs.Walk.{Held, Row, Step, Text, Waiting, Walk, after_step, arg_by_index, arg_by_long, idle, is_pending, next, option_met, settled_rows, to_positional, trailing, used, value, walked, word_met, after_flag}
use Rattle.clap.specs.Faults.{flags_fault, long_fault, option_fault, positional_fault, react_fault, settle_fault, step_fault, stray_fault, turn_fault, word_fault}
use Rattle.clap.specs.declared.error.kind.ErrorKind.TheVariants.{TooManyValues, UnknownArgument}
use Rattle.clap.proofs.FaultLemmas.{past}
use Rattle.mv_command_line.proofs.Commands.{budget_found, budget_rule, flag_found, flag_rule, long_missing, rules_of, shape_of, short_missing, word_rule}
use Rattle.mv_command_line.proofs.Flags.{Flag, name_of}
use Rattle.mv_command_line.proofs.Looks.{IsEnd, IsLong, IsPlain, IsShort, Means, means, name_in, value_in}
use Rattle.mv_command_line.proofs.Walks.{Pending, held_at, walk_at, first_empty, some_fault, no_subcommand}

abbrev pub turn : Bool → Walk → Text → Kinds
turn third w word = turn_fault (shape_of third) [] w word

abbrev pub step : Bool → Walk → Text → Walk
step third w word = walked (rules_of third) [] w word

abbrev pub met : Bool → Bool → Waiting → ℕ → List Row → Pending → Text → Held × Step
met third past_options waiting place rows pending word = word_met (rules_of third) [] past_options waiting place word (held_at rows pending)

abbrev pub own_fault : Bool → Bool → Waiting → List Row → Pending → Text → Kinds
own_fault third past_options waiting rows pending word = word_fault (shape_of third) [] past_options waiting word (held_at rows pending)

abbrev pub settles : Bool → List Row → Pending → Kinds
settles third rows pending = settle_fault (rules_of third) false (held_at rows pending)

-- ---- the word itself

pub met_plain : (third : Bool) (place : ℕ) (rows : List Row) (pending : Pending) (word : Text) → IsPlain word
    → met third false idle place rows pending word ≡ (held_at rows pending, value)
met_plain third place rows pending word p = rw (p.goes_on, p.long, p.short) refl

pub plain_fault : (third : Bool) (waiting : Waiting) (rows : List Row) (pending : Pending) (word : Text) → IsPlain word
    → own_fault third false waiting rows pending word ≡ []
plain_fault third waiting rows pending word p = rw (no_subcommand waiting word, p.goes_on, p.long, p.short) refl

pub met_end : (third : Bool) (waiting : Waiting) (place : ℕ) (rows : List Row) (pending : Pending) (word : Text) → IsEnd word
    → met third false waiting place rows pending word ≡ (held_at rows pending, trailing place)
met_end third waiting place rows pending word e = rw (no_subcommand waiting word, e.is) refl

pub fault_end : (third : Bool) (waiting : Waiting) (rows : List Row) (pending : Pending) (word : Text) → IsEnd word
    → own_fault third false waiting rows pending word ≡ []
fault_end third waiting rows pending word e = rw (no_subcommand waiting word, e.is) refl

pub met_long : (third : Bool) (place : ℕ) (rows : List Row) (pending : Pending) (word : Text) (l : IsLong word)
    → bytes_eq (codes "budget") (name_in l.text) ≡ true → met third false idle place rows pending word
    ≡ after_flag (rules_of third) idle word (option_met (rules_of third) budget_rule (value_in l.text) (held_at rows pending)).0
    (option_met (rules_of third) budget_rule (value_in l.text) (held_at rows pending)).1
met_long third place rows pending word l same = rw (l.goes_on, l.long) (rw (budget_found third (name_in l.text) same) refl)

pub fault_long : (third : Bool) (waiting : Waiting) (rows : List Row) (pending : Pending) (word : Text) (l : IsLong word)
    → own_fault third false waiting rows pending word
    ≡ long_fault (rules_of third) false (arg_by_long (rules_of third) (name_in l.text)) (value_in l.text) (held_at rows pending)
fault_long third waiting rows pending word l = rw (no_subcommand waiting word, l.goes_on, l.long) refl

pub fault_option : (third : Bool) (waiting : Waiting) (rows : List Row) (pending : Pending) (word : Text) (l : IsLong word)
    → bytes_eq (codes "budget") (name_in l.text) ≡ true
    → own_fault third false waiting rows pending word ≡ option_fault (rules_of third) false budget_rule (value_in l.text) (held_at rows pending)
fault_option third waiting rows pending word l same =
    fault_long third waiting rows pending word l
    ∙ ap (λ o. long_fault (rules_of third) false o (value_in l.text) (held_at rows pending)) (budget_found third (name_in l.text) same)

pub fault_unknown : (third : Bool) (waiting : Waiting) (rows : List Row) (pending : Pending) (word : Text) (l : IsLong word)
    → bytes_eq (codes "budget") (name_in l.text) ≡ false → ((f : Flag) → bytes_eq (name_of f) (name_in l.text) ≡ false)
    → own_fault third false waiting rows pending word ≡ UnknownArgument ∷ []
fault_unknown third waiting rows pending word l n m =
    fault_long third waiting rows pending word l
    ∙ ap (λ o. long_fault (rules_of third) false o (value_in l.text) (held_at rows pending)) (long_missing third (name_in l.text) n m)

-- a flag
flag_named : (third : Bool) (f : Flag) (name : Text) → name ≡ name_of f → arg_by_long (rules_of third) name ≡ Some (flag_rule (name_of f))
flag_named third f name e = ap (arg_by_long (rules_of third)) e ∙ flag_found third f

pub met_flag : (third : Bool) (place : ℕ) (rows : List Row) (pending : Pending) (word : Text) (l : IsLong word) (f : Flag) → name_in l.text ≡ name_of f → value_in l.text ≡ None
    → met third false idle place rows pending word ≡ (held_at (used (flag_rule (name_of f)) [] (settled_rows (rules_of third) pending rows)) None, next idle)
met_flag third place rows pending word l f name none =
    rw (l.goes_on, l.long) (rw (flag_named third f (name_in l.text) name) (rw none refl))

fault_named : (third : Bool) (waiting : Waiting) (rows : List Row) (pending : Pending) (word : Text) (l : IsLong word) (f : Flag) → name_in l.text ≡ name_of f
    → own_fault third false waiting rows pending word ≡ long_fault (rules_of third) false (Some (flag_rule (name_of f))) (value_in l.text) (held_at rows pending)
fault_named third waiting rows pending word l f name =
    fault_long third waiting rows pending word l
    ∙ ap (λ o. long_fault (rules_of third) false o (value_in l.text) (held_at rows pending)) (flag_named third f (name_in l.text) name)

pub fault_flag : (third : Bool) (waiting : Waiting) (rows : List Row) (pending : Pending) (word : Text) (l : IsLong word) (f : Flag) → name_in l.text ≡ name_of f → value_in l.text ≡ None
    → own_fault third false waiting rows pending word ≡ react_fault (rules_of third) false (flag_rule (name_of f)) [] (held_at rows pending)
fault_flag third waiting rows pending word l f name none =
    fault_named third waiting rows pending word l f name
    ∙ ap (λ v. long_fault (rules_of third) false (Some (flag_rule (name_of f))) v (held_at rows pending)) none

pub fault_flag_with : (third : Bool) (waiting : Waiting) (rows : List Row) (pending : Pending) (word : Text) (l : IsLong word) (f : Flag) (v : Text) → name_in l.text ≡ name_of f → value_in l.text ≡ Some v
    → own_fault third false waiting rows pending word ≡ TooManyValues ∷ []
fault_flag_with third waiting rows pending word l f v name some =
    fault_named third waiting rows pending word l f name
    ∙ ap (λ o. long_fault (rules_of third) false (Some (flag_rule (name_of f))) o (held_at rows pending)) some

pub fault_short : (third : Bool) (waiting : Waiting) (rows : List Row) (pending : Pending) (word : Text) → IsShort word
    → own_fault third false waiting rows pending word ≡ UnknownArgument ∷ []
unfolding flags_fault
fault_short third waiting rows pending word s =
    rw (no_subcommand waiting word, s.goes_on, s.long, s.short) (rw (s.starts) (rw (short_missing third s.letter) refl))

-- a dashed word that isn't `--` is at fault where what is pending is
option_fails : (third : Bool) (v : Option Text) (rows : List Row) (pending : Pending) → (settles third rows pending ≡ [] → ⊥)
    → option_fault (rules_of third) false budget_rule v (held_at rows pending) ≡ [] → ⊥
option_fails third None rows pending bad e = bad e
option_fails third (Some v) rows pending bad e = bad (first_empty (settles third rows pending) _ e)

pub long_fails : (third : Bool) (waiting : Waiting) (rows : List Row) (pending : Pending) (word : Text) → IsLong word → (settles third rows pending ≡ [] → ⊥)
    → own_fault third false waiting rows pending word ≡ [] → ⊥
long_fails third waiting rows pending word l bad e = by (means word l)
  where
    option : bytes_eq (codes "budget") (name_in l.text) ≡ true → ⊥
    option y = option_fails third (value_in l.text) rows pending bad (sym (fault_option third waiting rows pending word l y) ∙ e)

    by : Means word l → ⊥
    by (inl u) = some_fault _ _ (sym (fault_unknown third waiting rows pending word l u.budget u.flag) ∙ e)
    by (inr (inl a)) = option a.same
    by (inr (inr (inl a))) = option a.same
    by (inr (inr (inr (inl f)))) = bad (first_empty (settles third rows pending) _ (sym (fault_flag third waiting rows pending word l f.flag f.name f.none) ∙ e))
    by (inr (inr (inr (inr f)))) = some_fault _ _ (sym (fault_flag_with third waiting rows pending word l f.flag f.value f.name f.given) ∙ e)

pub short_fails : (third : Bool) (waiting : Waiting) (rows : List Row) (pending : Pending) (word : Text) → IsShort word
    → own_fault third false waiting rows pending word ≡ [] → ⊥
short_fails third waiting rows pending word s e = some_fault _ _ (sym (fault_short third waiting rows pending word s) ∙ e)

-- ---- the turn of the word

-- a word at fault itself
pub turn_fails : (third past_options : Bool) (waiting : Waiting) (place : ℕ) (rows : List Row) (pending : Pending) (word : Text)
    → (own_fault third past_options waiting rows pending word ≡ [] → ⊥) → turn third (walk_at past_options waiting place rows pending) word ≡ [] → ⊥
turn_fails third past_options waiting place rows pending word bad e = bad (first_empty (own_fault third past_options waiting rows pending word) _ e)

-- a word that isn't
pub turn_is : (third past_options : Bool) (waiting : Waiting) (place : ℕ) (rows : List Row) (pending : Pending) (word : Text) (h : Held) (s : Step)
    → own_fault third past_options waiting rows pending word ≡ [] → met third past_options waiting place rows pending word ≡ (h, s)
    → turn third (walk_at past_options waiting place rows pending) word ≡ step_fault (shape_of third) place h s
turn_is third past_options waiting place rows pending word h s none is =
    past (own_fault third past_options waiting rows pending word) _ none ∙ ap (λ m. step_fault (shape_of third) place m.0 m.1) is

pub step_is : (third past_options : Bool) (waiting : Waiting) (place : ℕ) (rows : List Row) (pending : Pending) (word : Text) (h : Held) (s : Step)
    → met third past_options waiting place rows pending word ≡ (h, s)
    → step third (walk_at past_options waiting place rows pending) word ≡ after_step (rules_of third) word (walk_at past_options waiting place rows pending) h s
unfolding walked
step_is third past_options waiting place rows pending word h s is =
    ap (λ m. after_step (rules_of third) word (walk_at past_options waiting place rows pending) m.0 m.1) is

-- ---- a positional word

pub value_fault : (third : Bool) (id : Text) (place : ℕ) (rows : List Row) (pending : Pending) → arg_by_index (rules_of third) place ≡ Some (word_rule id place)
    → step_fault (shape_of third) place (held_at rows pending) value ≡ settles third rows pending
value_fault third id place rows pending found =
    ap (λ o. option_map_or (λ a. positional_fault (rules_of third) false a (held_at rows pending)) o (stray_fault (shape_of third))) found
    ∙ ap (λ t. cond t [] (settles third rows pending)) (and_right (is_pending (word_rule id place) pending) false refl)

pub value_strays : (third : Bool) (place : ℕ) (rows : List Row) (pending : Pending) → arg_by_index (rules_of third) place ≡ None
    → step_fault (shape_of third) place (held_at rows pending) value ≡ UnknownArgument ∷ []
value_strays third place rows pending none =
    ap (λ o. option_map_or (λ a. positional_fault (rules_of third) false a (held_at rows pending)) o (stray_fault (shape_of third))) none

pub value_held : (third past_options : Bool) (id : Text) (place after : ℕ) (rows : List Row) (pending : Pending) (word : Text)
    → arg_by_index (rules_of third) place ≡ Some (word_rule id place) → min (place + 1) usize_max ≡ after
    → after_step (rules_of third) word (walk_at past_options idle place rows pending) (held_at rows pending) value
    ≡ walk_at past_options idle after (settled_rows (rules_of third) pending rows) (Some (id, word ∷ []))
value_held third past_options id place after rows pending word found next_place =
    ap (λ o. to_positional (rules_of third) o word (walk_at past_options idle place rows pending) (held_at rows pending)) found
    ∙ rw (and_right (is_pending (word_rule id place) pending) false refl, or-false past_options, next_place) refl

-- The definition and clap agree on all words.
use Rattle.std.proofs.Common.{◌≡◌, ◌∙◌, inl, inr, ℕ, zero, suc, Bool, true, false, cond, List, [], ◌∷◌, Option, Some, None, codes, refl, sym, ap, subst}
use Rattle.std.specs.Prelude.{drop}
use Rattle.std.specs.Str.{IsUtf8}
use Rattle.std.proofs.lemmas.Bool.{false≢true}
use Rattle.clap.specs.Walk.{Row, Text, Waiting, Walk, after_flag, idle, next, option, option_met, trailing, used}
use Rattle.clap.specs.Faults.{option_fault, use_fault}
use Rattle.clap.specs.declared.error.kind.ErrorKind.TheVariants.{InvalidValue}
use Rattle.clap.proofs.FaultLemmas.{past}
use Rattle.mv_command_line.specs.CommandLine.{Parts, Sort, is_dashed, only_words, parts_by, parts_of, sort_of, with_value}
use Rattle.mv_command_line.specs.Given.{counted}
use Rattle.mv_command_line.proofs.Commands.{budget_rule, flag_rule, rules_of}
use Rattle.mv_command_line.proofs.Counts.{flag_too_many, joined, joined_flag, joined_value, value_too_many}
use Rattle.mv_command_line.proofs.Flags.{Flag, Flags, free, blif, count, flag_sort, more, name_of, with_flag}
use Rattle.mv_command_line.proofs.Looks.{IsApart, IsAttached, IsEnd, IsFlag, IsLong, IsPlain, Looks, Means, looks, means}
use Rattle.mv_command_line.proofs.Stands.{Stands, after, apart_fits, attached_fits, flag_fits, second_flag, second_value}
use Rattle.mv_command_line.proofs.Steps.{bad_behind, bad_end, bad_word, behind_end, at_end, place, word_step}
use Rattle.mv_command_line.proofs.Turns.{fault_end, fault_flag, fault_flag_with, fault_option, fault_unknown, long_fails, met, met_end, met_flag, met_long, met_plain, own_fault, plain_fault, settles, short_fails, step, step_is, turn, turn_fails, turn_is}
use Rattle.mv_command_line.proofs.Walks.{AgreesAt, Pending, faults, first_passes, goes_on, held_at, some_fault, stops_here, walk_at}

-- every word is a text
abbrev pub AreTexts : List Text → Type 0
AreTexts [] = Unit {0}
AreTexts (w ∷ ws) = IsUtf8 w × AreTexts ws

-- the option waits for its value
abbrev budget_waits : Waiting
budget_waits = option (codes "budget")

abbrev no_value : Pending
no_value = Some (codes "budget", [])

abbrev one_value : Text → Pending
one_value v = Some (codes "budget", v ∷ [])

-- ---- a fault of what is pending is told

-- behind `--`
bad_at_end : (third : Bool) (waiting : Waiting) (word : Text) (ws words : List Text) (rows : List Row) (pending : Pending) → (settles third rows pending ≡ [] → ⊥)
    → IsEnd word → faults third (walk_at false waiting (place words) rows pending) (word ∷ ws) ≡ [] → ⊥
bad_at_end third waiting word ws words rows pending bad e =
    goes_on third None (walk_at false waiting (place words) rows pending) (walk_at true waiting (place words) rows pending) word ws
    (turn_is third false waiting (place words) rows pending word (held_at rows pending) (trailing (place words)) (fault_end third waiting rows pending word e) (met_end third waiting (place words) rows pending word e))
    (step_is third false waiting (place words) rows pending word (held_at rows pending) (trailing (place words)) (met_end third waiting (place words) rows pending word e))
    (bad_behind third waiting ws words rows pending bad)

-- at the next word
bad_loose : (third : Bool) (ws words : List Text) (rows : List Row) (pending : Pending) → AreTexts ws → (settles third rows pending ≡ [] → ⊥)
    → faults third (walk_at false idle (place words) rows pending) ws ≡ [] → ⊥
bad_loose third [] words rows pending texts bad e = bad_end third false idle (place words) rows pending bad e
bad_loose third (word ∷ ws) words rows pending texts bad e = by (looks word texts.0)
  where
    passes : turn third (walk_at false idle (place words) rows pending) word ≡ []
    passes = first_passes third (walk_at false idle (place words) rows pending) word ws e

    by : Looks word → ⊥
    by (inl p) = bad_word third false idle words rows pending word bad (plain_fault third idle rows pending word p) (met_plain third (place words) rows pending word p) passes
    by (inr (inl d)) = bad_at_end third idle word ws words rows pending bad d e
    by (inr (inr (inl l))) = turn_fails third false idle (place words) rows pending word (long_fails third idle rows pending word l bad) passes
    by (inr (inr (inr s))) = turn_fails third false idle (place words) rows pending word (short_fails third idle rows pending word s) passes

-- ---- the option waits for its value

-- agreement on the words left where options may stand, wherever the walk is
abbrev pub Loose : Bool → List Text → Type 0
Loose third ws = (rows : List Row) (pending : Pending) (words values : List Text) (flags : Flags) → AreTexts ws → Stands third rows pending words values flags
    → AgreesAt third (counted third (joined words values flags (parts_of false ws))) (walk_at false idle (place words) rows pending) ws

met_value : (third : Bool) (at : ℕ) (rows : List Row) (word : Text) → IsPlain word → met third false budget_waits at rows no_value word ≡ (held_at rows (one_value word), next idle)
met_value third at rows word p = rw (p.goes_on, p.long, p.short) refl

value_step : (third : Bool) (word : Text) (ws : List Text) (rows : List Row) (pending : Pending) (words values : List Text) (flags : Flags) → Loose third ws → AreTexts ws
    → Stands third rows pending words values flags → IsPlain word
    → AgreesAt third (counted third (joined words values flags (with_value word (parts_of false ws)))) (walk_at false budget_waits (place words) (after third rows pending) no_value) (word ∷ ws)
value_step third word ws rows pending words values flags loose texts s p = by values s
  where
    rest : List Row
    rest = after third rows pending

    before : Walk
    before = walk_at false budget_waits (place words) rest no_value

    behind_value : Walk
    behind_value = walk_at false idle (place words) rest (one_value word)

    passes : turn third before word ≡ []
    passes = turn_is third false budget_waits (place words) rest no_value word (held_at rest (one_value word)) (next idle)
        (plain_fault third budget_waits rest no_value word p) (met_value third (place words) rest word p)

    goes : step third before word ≡ behind_value
    goes = step_is third false budget_waits (place words) rest no_value word (held_at rest (one_value word)) (next idle) (met_value third (place words) rest word p)

    by : (vs : List Text) → Stands third rows pending words vs flags → AgreesAt third (counted third (joined words vs flags (with_value word (parts_of false ws)))) before (word ∷ ws)
    by [] t = goes_on third _ before behind_value word ws passes goes
        (subst (λ o. AgreesAt third (counted third o) behind_value ws) (sym (joined_value words [] flags word (parts_of false ws)))
        (loose rest (one_value word) words (word ∷ []) flags texts (apart_fits third rows pending words flags word t)))
    by (v ∷ []) t = subst (λ o. AgreesAt third o before (word ∷ ws)) (sym (value_too_many third words v word flags (parts_of false ws)))
        (goes_on third None before behind_value word ws passes goes
        (bad_loose third ws words rest (one_value word) texts (second_value third rows pending words flags v word t)))
    by (v ∷ u ∷ vs) t = absurd (false≢true t.one_value)

waits : (third : Bool) (ws : List Text) (rows : List Row) (pending : Pending) (words values : List Text) (flags : Flags) → Loose third (drop 1 ws) → AreTexts ws → Stands third rows pending words values flags
    → AgreesAt third (counted third (joined words values flags (parts_of true ws))) (walk_at false budget_waits (place words) (after third rows pending) no_value) ws
waits third [] rows pending words values flags loose texts s = bad_end third false budget_waits (place words) (after third rows pending) no_value (some_fault InvalidValue [])
waits third (word ∷ ws) rows pending words values flags loose texts s = by (looks word texts.0)
  where
    rest : List Row
    rest = after third rows pending

    before : Walk
    before = walk_at false budget_waits (place words) rest no_value

    Goal : Option Parts → Type 0
    Goal parts = AgreesAt third (counted third (joined words values flags parts)) before (word ∷ ws)

    refuses : is_dashed word ≡ true → (faults third before (word ∷ ws) ≡ [] → ⊥) → Goal (parts_of true (word ∷ ws))
    refuses d bad = subst (λ t. Goal (cond t None (with_value word (parts_of false ws)))) (sym d) bad

    by : Looks word → Goal (parts_of true (word ∷ ws))
    by (inl p) = subst (λ t. Goal (cond t None (with_value word (parts_of false ws)))) (sym p.whole) (value_step third word ws rows pending words values flags loose texts.1 s p)
    by (inr (inl d)) = refuses d.dashed (bad_at_end third budget_waits word ws words rest no_value (some_fault InvalidValue []) d)
    by (inr (inr (inl l))) = refuses l.dashed (λ e. turn_fails third false budget_waits (place words) rest no_value word
        (long_fails third budget_waits rest no_value word l (some_fault InvalidValue [])) (first_passes third before word ws e))
    by (inr (inr (inr h))) = refuses h.dashed (λ e. turn_fails third false budget_waits (place words) rest no_value word
        (short_fails third budget_waits rest no_value word h) (first_passes third before word ws e))

-- ---- one word more

module _ (third : Bool) (word : Text) (ws : List Text) (rows : List Row) (pending : Pending) (words values : List Text) (flags : Flags) (s : Stands third rows pending words values flags) where
  abbrev rest : List Row
  rest = after third rows pending

  abbrev before : Walk
  before = walk_at false idle (place words) rows pending

  -- `--`
  end_step : IsEnd word → AgreesAt third (counted third (joined words values flags (Some (only_words ws)))) before (word ∷ ws)
  end_step d = goes_on third _ before (walk_at true idle (place words) rows pending) word ws
      (turn_is third false idle (place words) rows pending word (held_at rows pending) (trailing (place words)) (fault_end third idle rows pending word d) (met_end third idle (place words) rows pending word d))
      (step_is third false idle (place words) rows pending word (held_at rows pending) (trailing (place words)) (met_end third idle (place words) rows pending word d))
      (behind_end third ws rows pending words values flags s)

  -- `--budget`
  met_apart : (l : IsLong word) → IsApart word l → met third false idle (place words) rows pending word ≡ (held_at rest no_value, next budget_waits)
  met_apart l a = met_long third (place words) rows pending word l a.same
      ∙ ap (λ v. after_flag (rules_of third) idle word (option_met (rules_of third) budget_rule v (held_at rows pending)).0
      (option_met (rules_of third) budget_rule v (held_at rows pending)).1) a.none

  fault_apart : (l : IsLong word) → IsApart word l → own_fault third false idle rows pending word ≡ []
  fault_apart l a = fault_option third idle rows pending word l a.same
      ∙ (ap (λ v. option_fault (rules_of third) false budget_rule v (held_at rows pending)) a.none ∙ s.sound)

  apart_step : (l : IsLong word) → IsApart word l → Loose third (drop 1 ws) → AreTexts ws
      → AgreesAt third (counted third (joined words values flags (parts_of true ws))) before (word ∷ ws)
  apart_step l a loose texts = goes_on third _ before (walk_at false budget_waits (place words) rest no_value) word ws
      (turn_is third false idle (place words) rows pending word (held_at rest no_value) (next budget_waits) (fault_apart l a) (met_apart l a))
      (step_is third false idle (place words) rows pending word (held_at rest no_value) (next budget_waits) (met_apart l a))
      (waits third ws rows pending words values flags loose texts s)

  -- `--budget=` with its value
  met_attached : (l : IsLong word) (a : IsAttached word l)
      → met third false idle (place words) rows pending word ≡ (held_at (used budget_rule (a.value ∷ []) rest) None, next idle)
  met_attached l a = met_long third (place words) rows pending word l a.same
      ∙ ap (λ v. after_flag (rules_of third) idle word (option_met (rules_of third) budget_rule v (held_at rows pending)).0
      (option_met (rules_of third) budget_rule v (held_at rows pending)).1) a.given

  fault_attached : (l : IsLong word) (a : IsAttached word l) → own_fault third false idle rows pending word ≡ use_fault false budget_rule (a.value ∷ []) rest
  fault_attached l a = fault_option third idle rows pending word l a.same
      ∙ (ap (λ v. option_fault (rules_of third) false budget_rule v (held_at rows pending)) a.given ∙ past (settles third rows pending) _ s.sound)

  -- a flag
  met_alone : (l : IsLong word) (f : IsFlag word l) → met third false idle (place words) rows pending word ≡ (held_at (used (flag_rule (name_of f.flag)) [] rest) None, next idle)
  met_alone l f = met_flag third (place words) rows pending word l f.flag f.name f.none

  fault_alone : (l : IsLong word) (f : IsFlag word l) → own_fault third false idle rows pending word ≡ use_fault false (flag_rule (name_of f.flag)) [] rest
  fault_alone l f = fault_flag third idle rows pending word l f.flag f.name f.none ∙ past (settles third rows pending) _ s.sound

  flag_step : (l : IsLong word) (f : IsFlag word l) → Loose third ws → AreTexts ws
      → AgreesAt third (counted third (joined words values flags (with_flag f.flag (parts_of false ws)))) before (word ∷ ws)
  flag_step l f loose texts = by (count f.flag flags) refl
    where
      behind_flag : Walk
      behind_flag = walk_at false idle (place words) (used (flag_rule (name_of f.flag)) [] rest) None

      by : (n : ℕ) → count f.flag flags ≡ n → AgreesAt third (counted third (joined words values flags (with_flag f.flag (parts_of false ws)))) before (word ∷ ws)
      by zero none =
          let fits = flag_fits third f.flag rows pending words values flags s none in
          let held = held_at (used (flag_rule (name_of f.flag)) [] rest) None in
          goes_on third _ before behind_flag word ws
          (turn_is third false idle (place words) rows pending word held (next idle) (fault_alone l f ∙ fits.0) (met_alone l f))
          (step_is third false idle (place words) rows pending word held (next idle) (met_alone l f))
          (subst (λ o. AgreesAt third (counted third o) behind_flag ws) (sym (joined_flag f.flag words values flags (parts_of false ws)))
          (loose (used (flag_rule (name_of f.flag)) [] rest) None words values (more f.flag flags) texts fits.1))
      by (suc n) one = stops_here third _ before word ws
          (turn_fails third false idle (place words) rows pending word
          (λ e. second_flag third f.flag rows pending words values flags s n one (sym (fault_alone l f) ∙ e)))
          (flag_too_many third f.flag words values flags n (parts_of false ws) one)

attached_step : (third : Bool) (word : Text) (ws : List Text) (rows : List Row) (pending : Pending) (words values : List Text) (flags : Flags) (l : IsLong word) (a : IsAttached word l)
    → Stands third rows pending words values flags → Loose third ws → AreTexts ws
    → AgreesAt third (counted third (joined words values flags (with_value a.value (parts_of false ws)))) (walk_at false idle (place words) rows pending) (word ∷ ws)
attached_step third word ws rows pending words [] flags l a s loose texts =
    let rest = after third rows pending in
    let fits = attached_fits third rows pending words flags a.value s in
    let is = met_attached third word ws rows pending words [] flags s l a in
    let none = fault_attached third word ws rows pending words [] flags s l a ∙ fits.0 in
    let held = held_at (used budget_rule (a.value ∷ []) rest) None in
    goes_on third _ (walk_at false idle (place words) rows pending) (walk_at false idle (place words) (used budget_rule (a.value ∷ []) rest) None) word ws
    (turn_is third false idle (place words) rows pending word held (next idle) none is)
    (step_is third false idle (place words) rows pending word held (next idle) is)
    (subst (λ o. AgreesAt third (counted third o) (walk_at false idle (place words) (used budget_rule (a.value ∷ []) rest) None) ws)
    (sym (joined_value words [] flags a.value (parts_of false ws)))
    (loose (used budget_rule (a.value ∷ []) rest) None words (a.value ∷ []) flags texts fits.1))
attached_step third word ws rows pending words (v ∷ []) flags l a s loose texts =
    stops_here third _ (walk_at false idle (place words) rows pending) word ws
    (turn_fails third false idle (place words) rows pending word
    (λ e. second_value third rows pending words flags v a.value s (sym (fault_attached third word ws rows pending words (v ∷ []) flags s l a) ∙ e)))
    (value_too_many third words v a.value flags (parts_of false ws))
attached_step third word ws rows pending words (v ∷ u ∷ values) flags l a s loose texts = absurd (false≢true s.one_value)

-- a word where options may stand, and the words behind it
loose_step : (third : Bool) (word : Text) (ws : List Text) → Loose third ws → Loose third (drop 1 ws) → Loose third (word ∷ ws)
loose_step third word ws loose later rows pending words values flags texts s = by (looks word texts.0)
  where
    before : Walk
    before = walk_at false idle (place words) rows pending

    Agreed : Option Parts → Type 0
    Agreed parts = AgreesAt third (counted third (joined words values flags parts)) before (word ∷ ws)

    Told : Sort → Type 0
    Told sort = Agreed (parts_by sort word ws (parts_of false ws) (parts_of true ws))

    flagged : (f : Flag) → Agreed (with_flag f (parts_of false ws)) → Told (flag_sort f)
    flagged free h = h
    flagged blif h = h

    stops : (own_fault third false idle rows pending word ≡ [] → ⊥) → AgreesAt third None before (word ∷ ws)
    stops bad = stops_here third None before word ws (turn_fails third false idle (place words) rows pending word bad) refl

    long : (l : IsLong word) → Means word l → Told (sort_of word)
    long l (inl u) = subst Told (sym u.sort) (stops (λ e. some_fault _ _ (sym (fault_unknown third idle rows pending word l u.budget u.flag) ∙ e)))
    long l (inr (inl a)) = subst Told (sym a.sort) (apart_step third word ws rows pending words values flags s l a later texts.1)
    long l (inr (inr (inl a))) = subst Told (sym a.sort) (attached_step third word ws rows pending words values flags l a s loose texts.1)
    long l (inr (inr (inr (inl f)))) = subst Told (sym f.sort) (flagged f.flag (flag_step third word ws rows pending words values flags s l f loose texts.1))
    long l (inr (inr (inr (inr f)))) = subst Told (sym f.sort) (stops (λ e. some_fault _ _ (sym (fault_flag_with third idle rows pending word l f.flag f.value f.name f.given) ∙ e)))

    by : Looks word → Told (sort_of word)
    by (inl p) = subst Told (sym p.sort)
        (word_step third false rows pending words values flags word ws (parts_of false ws) s (plain_fault third idle rows pending word p) (met_plain third (place words) rows pending word p)
        (λ more rest held t. loose rest held more values flags texts.1 t))
    by (inr (inl d)) = subst Told (sym d.sort) (end_step third word ws rows pending words values flags s d)
    by (inr (inr (inl l))) = long l (means word l)
    by (inr (inr (inr h))) = subst Told (sym h.sort) (stops (short_fails third idle rows pending word h))

pub agrees : (third : Bool) (ws : List Text) → Loose third ws
agrees third [] = λ rows pending words values flags texts s. at_end third false rows pending words values flags s
agrees third (word ∷ []) = loose_step third word [] (agrees third []) (agrees third [])
agrees third (word ∷ other ∷ ws) = loose_step third word (other ∷ ws) (agrees third (other ∷ ws)) (agrees third ws)

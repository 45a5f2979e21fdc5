-- What is found for each argument once some words and values were used.
use Rattle.std.proofs.Common.{◌≡◌, ◌∙◌, true, false, cond, List, [], ◌∷◌, ◌++◌, Option, Some, None, codes, refl, ap, ⊎_elim, ℕ, zero, suc}
use Rattle.std.specs.Prelude.{slice_get, option_map, option_and_then, is_some}
use Rattle.std.specs.List.{find}
use Rattle.std.specs.Option.{option_or}
use Rattle.std.specs.Str.{bytes_eq}
use Rattle.std.proofs.lemmas.Bool.{cases_Bool, or_parts}
use Rattle.std.proofs.lemmas.List.{append-nil}
use Rattle.std.proofs.lemmas.List.Folds.{find-append}
use Rattle.clap.specs.Walk.{Row, Text, at_row, default_rows, first_of, has_row, more_values, one_of, reading_by, row_text, used, used_as, with_default, with_values}
use Rattle.clap.specs.declared.builder.value_parser.Reading.{Reading}
use Rattle.clap.specs.declared.parser.matches.ValueSource.{ValueSource}
use Rattle.clap.specs.declared.parser.matches.ValueSource.TheVariants.{CommandLine, DefaultValue}
use Rattle.clap.specs.declared.builder.action.ArgAction.TheVariants.{Set}
use Rattle.mv_command_line.specs.Given.{flag_text}
use Rattle.mv_command_line.proofs.Commands.{blif_rule, budget_rule, flag_rule, free_rule, first_rule, second_rule, third_rule}
use Rattle.mv_command_line.proofs.Flags.{Flag, Flags, free, blif, count, more, name_of, no_flags}

-- the row of an argument that has one value, which comes from there and is read so
abbrev pub row_by : Reading → ValueSource → Text → Text → Row
row_by how source id value = record {
  id = id;
  values = value ∷ [];
  count = None;
  source = Some source;
  reading = how;
}

-- the row of an argument with its value as it was given
abbrev pub row_with : Text → Text → Row
row_with = row_by (reading_by budget_rule) CommandLine

abbrev pub found : Text → List Row → Option Row
found id rows = find (λ r. bytes_eq r.id id) rows

-- ---- one row more

rows_above : (id : Text) (change : Row → List Row) (missing rows : List Row) → has_row id rows ≡ false → at_row id change missing rows ≡ rows ++ missing
rows_above id change missing [] none = refl
rows_above id change missing (r ∷ rows) none =
    let parts = or_parts (bytes_eq r.id id) (has_row id rows) none in
    rw parts.0 (ap (λ rs. r ∷ rs) (rows_above id change missing rows parts.1))

has_found : (id : Text) (rows : List Row) → has_row id rows ≡ is_some (found id rows)
has_found id [] = refl
has_found id (r ∷ rows) = ⊎_elim (λ (y : bytes_eq r.id id ≡ true). rw y refl) (λ (n : bytes_eq r.id id ≡ false). rw n (has_found id rows)) (cases_Bool (bytes_eq r.id id))

pub has_none : (id : Text) (rows : List Row) → found id rows ≡ None → has_row id rows ≡ false
has_none id rows e = has_found id rows ∙ ap is_some e

pub has_one : (id : Text) (rows : List Row) (r : Row) → found id rows ≡ Some r → has_row id rows ≡ true
has_one id rows r e = has_found id rows ∙ ap is_some e

-- the rows once an argument that has none gets its value
abbrev given : Reading → Text → Text → List Row → List Row
given how id value rows = used_as Set id how (value ∷ []) rows

added_is : (how : Reading) (source : ValueSource) (id value : Text) (rows : List Row) → found id rows ≡ None
    → with_values id how source (value ∷ []) rows ≡ rows ++ row_by how source id value ∷ []
added_is how source id value rows e = rows_above id (more_values source (value ∷ [])) _ rows (has_none id rows e)

given_is : (how : Reading) (id value : Text) (rows : List Row) → found id rows ≡ None → given how id value rows ≡ rows ++ row_by how CommandLine id value ∷ []
given_is how id value rows e =
    ap (with_values id how CommandLine (value ∷ [])) (rows_above id (λ _. []) [] rows (has_none id rows e) ∙ append-nil rows)
    ∙ added_is how CommandLine id value rows e

or_none : (o : Option Row) → option_or o None ≡ o
or_none None = refl
or_none (Some r) = refl

behind_other : (r : Row) (other : Text) (rows : List Row) (o : Option Row) → bytes_eq r.id other ≡ false → found other rows ≡ o → found other (rows ++ r ∷ []) ≡ o
behind_other r other rows o apart e =
    find-append (λ q. bytes_eq q.id other) rows (r ∷ [])
    ∙ (ap (λ t. option_or (found other rows) (cond t (Some r) None)) apart ∙ (or_none (found other rows) ∙ e))

behind_here : (r : Row) (rows : List Row) → bytes_eq r.id r.id ≡ true → found r.id rows ≡ None → found r.id (rows ++ r ∷ []) ≡ Some r
behind_here r rows same none =
    find-append (λ q. bytes_eq q.id r.id) rows (r ∷ [])
    ∙ (ap (λ t. option_or (found r.id rows) (cond t (Some r) None)) same ∙ ap (λ o. option_or o (Some r)) none)

found_other : (how : Reading) (id other value : Text) (rows : List Row) (o : Option Row) → bytes_eq id other ≡ false → found id rows ≡ None → found other rows ≡ o
    → found other (given how id value rows) ≡ o
found_other how id other value rows o apart none e =
    ap (found other) (given_is how id value rows none) ∙ behind_other (row_by how CommandLine id value) other rows o apart e

found_here : (how : Reading) (id value : Text) (rows : List Row) → bytes_eq id id ≡ true → found id rows ≡ None
    → found id (given how id value rows) ≡ Some (row_by how CommandLine id value)
found_here how id value rows same none =
    ap (found id) (given_is how id value rows none) ∙ behind_here (row_by how CommandLine id value) rows same none

-- ---- what the words, the values and the flags leave

abbrev pub row_for : Text → List Text → ℕ → Option Row
row_for id texts place = option_map (row_with id) (slice_get texts place)

-- how the value of a flag is read, and the row of one that stands so often
abbrev flag_reading : Reading
flag_reading = reading_by free_rule

abbrev pub flag_row : Text → ℕ → Option Row
flag_row name zero = None
flag_row name (suc n) = Some (row_by flag_reading CommandLine name (codes "true"))

-- each argument has its word, and each option what it was given
pub record Finds (rows : List Row) (words values : List Text) (flags : Flags) : Type 0 where
  pub budget : found (codes "budget") rows ≡ row_for (codes "budget") values 0
  pub free : found (codes "free") rows ≡ flag_row (codes "free") flags.frees
  pub blif : found (codes "blif") rows ≡ flag_row (codes "blif") flags.blifs
  pub first : found (codes "first") rows ≡ row_for (codes "first") words 0
  pub second : found (codes "second") rows ≡ row_for (codes "second") words 1
  pub third : found (codes "third") rows ≡ row_for (codes "third") words 2

pub finds_nothing : Finds [] [] [] no_flags
finds_nothing = record { budget = refl; free = refl; blif = refl; first = refl; second = refl; third = refl }

pub finds_flag : (f : Flag) (rows : List Row) (words values : List Text) (flags : Flags) → Finds rows words values flags → found (name_of f) rows ≡ flag_row (name_of f) (count f flags)
finds_flag free rows words values flags f = f.free
finds_flag blif rows words values flags f = f.blif

pub with_budget : (rows : List Row) (words : List Text) (flags : Flags) (value : Text) → Finds rows words [] flags → Finds (used budget_rule (value ∷ []) rows) words (value ∷ []) flags
with_budget rows words flags value f = record {
  budget = found_here (reading_by budget_rule) (codes "budget") value rows refl f.budget;
  free = found_other (reading_by budget_rule) (codes "budget") (codes "free") value rows _ refl f.budget f.free;
  blif = found_other (reading_by budget_rule) (codes "budget") (codes "blif") value rows _ refl f.budget f.blif;
  first = found_other (reading_by budget_rule) (codes "budget") (codes "first") value rows _ refl f.budget f.first;
  second = found_other (reading_by budget_rule) (codes "budget") (codes "second") value rows _ refl f.budget f.second;
  third = found_other (reading_by budget_rule) (codes "budget") (codes "third") value rows _ refl f.budget f.third;
}

pub one_flag : (f : Flag) (rows : List Row) (words values : List Text) (flags : Flags) → found (name_of f) rows ≡ None → Finds rows words values flags
    → Finds (used (flag_rule (name_of f)) [] rows) words values (more f flags)
one_flag free rows words values flags none f = record {
  budget = found_other flag_reading (codes "free") (codes "budget") (codes "true") rows _ refl none f.budget;
  free = found_here flag_reading (codes "free") (codes "true") rows refl none;
  blif = found_other flag_reading (codes "free") (codes "blif") (codes "true") rows _ refl none f.blif;
  first = found_other flag_reading (codes "free") (codes "first") (codes "true") rows _ refl none f.first;
  second = found_other flag_reading (codes "free") (codes "second") (codes "true") rows _ refl none f.second;
  third = found_other flag_reading (codes "free") (codes "third") (codes "true") rows _ refl none f.third;
}
one_flag blif rows words values flags none f = record {
  budget = found_other flag_reading (codes "blif") (codes "budget") (codes "true") rows _ refl none f.budget;
  free = found_other flag_reading (codes "blif") (codes "free") (codes "true") rows _ refl none f.free;
  blif = found_here flag_reading (codes "blif") (codes "true") rows refl none;
  first = found_other flag_reading (codes "blif") (codes "first") (codes "true") rows _ refl none f.first;
  second = found_other flag_reading (codes "blif") (codes "second") (codes "true") rows _ refl none f.second;
  third = found_other flag_reading (codes "blif") (codes "third") (codes "true") rows _ refl none f.third;
}

pub with_first : (rows : List Row) (values : List Text) (flags : Flags) (word : Text) → Finds rows [] values flags → Finds (used first_rule (word ∷ []) rows) (word ∷ []) values flags
with_first rows values flags word f = record {
  budget = found_other (reading_by budget_rule) (codes "first") (codes "budget") word rows _ refl f.first f.budget;
  free = found_other (reading_by budget_rule) (codes "first") (codes "free") word rows _ refl f.first f.free;
  blif = found_other (reading_by budget_rule) (codes "first") (codes "blif") word rows _ refl f.first f.blif;
  first = found_here (reading_by budget_rule) (codes "first") word rows refl f.first;
  second = found_other (reading_by budget_rule) (codes "first") (codes "second") word rows _ refl f.first f.second;
  third = found_other (reading_by budget_rule) (codes "first") (codes "third") word rows _ refl f.first f.third;
}

pub with_second : (rows : List Row) (values : List Text) (flags : Flags) (a word : Text) → Finds rows (a ∷ []) values flags → Finds (used second_rule (word ∷ []) rows) (a ∷ word ∷ []) values flags
with_second rows values flags a word f = record {
  budget = found_other (reading_by budget_rule) (codes "second") (codes "budget") word rows _ refl f.second f.budget;
  free = found_other (reading_by budget_rule) (codes "second") (codes "free") word rows _ refl f.second f.free;
  blif = found_other (reading_by budget_rule) (codes "second") (codes "blif") word rows _ refl f.second f.blif;
  first = found_other (reading_by budget_rule) (codes "second") (codes "first") word rows _ refl f.second f.first;
  second = found_here (reading_by budget_rule) (codes "second") word rows refl f.second;
  third = found_other (reading_by budget_rule) (codes "second") (codes "third") word rows _ refl f.second f.third;
}

pub with_third : (rows : List Row) (values : List Text) (flags : Flags) (a b word : Text) → Finds rows (a ∷ b ∷ []) values flags → Finds (used third_rule (word ∷ []) rows) (a ∷ b ∷ word ∷ []) values flags
with_third rows values flags a b word f = record {
  budget = found_other (reading_by budget_rule) (codes "third") (codes "budget") word rows _ refl f.third f.budget;
  free = found_other (reading_by budget_rule) (codes "third") (codes "free") word rows _ refl f.third f.free;
  blif = found_other (reading_by budget_rule) (codes "third") (codes "blif") word rows _ refl f.third f.blif;
  first = found_other (reading_by budget_rule) (codes "third") (codes "first") word rows _ refl f.third f.first;
  second = found_other (reading_by budget_rule) (codes "third") (codes "second") word rows _ refl f.third f.second;
  third = found_here (reading_by budget_rule) (codes "third") word rows refl f.third;
}

-- ---- the end, where each flag has a row also if it doesn't stand

pub record Closes (rows : List Row) (words values : List Text) (flags : Flags) : Type 0 where
  pub budget : found (codes "budget") rows ≡ row_for (codes "budget") values 0
  pub free : one_of (codes "free") rows ≡ Some (flag_text flags.frees)
  pub blif : one_of (codes "blif") rows ≡ Some (flag_text flags.blifs)
  pub first : found (codes "first") rows ≡ row_for (codes "first") words 0
  pub second : found (codes "second") rows ≡ row_for (codes "second") words 1
  pub third : found (codes "third") rows ≡ row_for (codes "third") words 2

-- the row that the default makes
abbrev default_row : Text → Row
default_row name = row_by flag_reading DefaultValue name (codes "false")

default_is : (name : Text) (rows : List Row) → found name rows ≡ None → with_default rows (flag_rule name) ≡ rows ++ default_row name ∷ []
default_is name rows e = ap (λ t. cond t rows (default_rows name flag_reading (codes "false" ∷ []) rows)) (has_none name rows e)
    ∙ added_is flag_reading DefaultValue name (codes "false") rows e

no_default : (name : Text) (rows : List Row) (r : Row) → found name rows ≡ Some r → with_default rows (flag_rule name) ≡ rows
no_default name rows r e = ap (λ t. cond t rows (default_rows name flag_reading (codes "false" ∷ []) rows)) (has_one name rows r e)

-- the default of one flag, and what is found of it and of the others
closed_here : (name : Text) (rows : List Row) (n : ℕ) → bytes_eq name name ≡ true → found name rows ≡ flag_row name n
    → one_of name (with_default rows (flag_rule name)) ≡ Some (flag_text n)
closed_here name rows zero same e = ap (one_of name) (default_is name rows e) ∙ ap (option_and_then row_text) (behind_here (default_row name) rows same e)
closed_here name rows (suc n) same e = ap (one_of name) (no_default name rows _ e) ∙ ap (option_and_then row_text) e

closed_other : (name other : Text) (rows : List Row) → bytes_eq name other ≡ false → found other (with_default rows (flag_rule name)) ≡ found other rows
closed_other name other rows apart = by (found name rows) refl
  where
    by : (o : Option Row) → found name rows ≡ o → found other (with_default rows (flag_rule name)) ≡ found other rows
    by None e = ap (found other) (default_is name rows e) ∙ behind_other (default_row name) other rows _ apart refl
    by (Some r) e = ap (found other) (no_default name rows r e)

-- the same of both flags
abbrev pub closed : List Row → List Row
closed rows = with_default (with_default rows free_rule) blif_rule

closed_apart : (other : Text) (rows : List Row) → bytes_eq (codes "free") other ≡ false → bytes_eq (codes "blif") other ≡ false → found other (closed rows) ≡ found other rows
closed_apart other rows n m = closed_other (codes "blif") other (with_default rows free_rule) m ∙ closed_other (codes "free") other rows n

pub closes : (rows : List Row) (words values : List Text) (flags : Flags) → Finds rows words values flags → Closes (closed rows) words values flags
closes rows words values flags f =
    let rest = with_default rows free_rule in record {
      budget = closed_apart (codes "budget") rows refl refl ∙ f.budget;
      free = ap (option_and_then row_text) (closed_other (codes "blif") (codes "free") rest refl) ∙ closed_here (codes "free") rows flags.frees refl f.free;
      blif = closed_here (codes "blif") rest flags.blifs refl (closed_other (codes "free") (codes "blif") rows refl ∙ f.blif);
      first = closed_apart (codes "first") rows refl refl ∙ f.first;
      second = closed_apart (codes "second") rows refl refl ∙ f.second;
      third = closed_apart (codes "third") rows refl refl ∙ f.third;
    }

-- the text that is read of an argument
text_read : (id : Text) (o : Option Text) → option_and_then (λ (r : Row). slice_get r.values 0) (option_map (row_with id) o) ≡ o
text_read id None = refl
text_read id (Some v) = refl

pub first_text : (id : Text) (rows : List Row) (texts : List Text) (place : ℕ) → found id rows ≡ row_for id texts place → first_of id rows ≡ slice_get texts place
first_text id rows texts place e = ap (option_and_then (λ (r : Row). slice_get r.values 0)) e ∙ text_read id (slice_get texts place)

-- The walk once some words and values were used, and one step more.
use Rattle.std.proofs.Common.{◌≡◌, ◌∙◌, ℕ, zero, suc, ◌==◌, Bool, true, false, cond, List, [], ◌∷◌, length, Some, None, codes, refl, ap, ⊎_elim}
use Rattle.std.specs.Prelude.{fold}
use Rattle.std.proofs.lemmas.Bool.{cases_Bool, false≢true, or_right}
use Rattle.clap.specs.Walk.{Row, Rule, Text, has_row, settled_rows, used, with_default}
use Rattle.clap.specs.Faults.{check_fault, default_fault, defaults_fault, settle_fault, use_fault}
use Rattle.clap.specs.declared.error.kind.ErrorKind.TheVariants.{ArgumentConflict, MissingRequiredArgument}
use Rattle.clap.proofs.FaultLemmas.{past}
use Rattle.mv_command_line.proofs.Commands.{blif_rule, budget_rule, flag_rule, free_rule, first_rule, second_rule, third_rule, rules_of, shape_of, word_rules}
use Rattle.mv_command_line.proofs.Finds.{Closes, Finds, closed, finds_flag, found, flag_row, has_none, has_one, one_flag, row_with, with_budget, with_first, with_second, with_third}
use Rattle.mv_command_line.proofs.Flags.{Flag, Flags, free, blif, count, more, name_of, no_flags}
use Rattle.mv_command_line.proofs.Turns.{settles}
use Rattle.mv_command_line.proofs.Walks.{Pending, held_at, end_fault, some_fault}

-- the words are no more than the command takes, and the values and the flags neither
abbrev pub few : Bool → List Text → Bool
few third [] = true
few third (a ∷ []) = true
few third (a ∷ b ∷ []) = true
few third (a ∷ b ∷ c ∷ []) = third
few third (a ∷ b ∷ c ∷ d ∷ words) = false

abbrev pub once : List Text → Bool
once [] = true
once (v ∷ []) = true
once (v ∷ u ∷ values) = false

abbrev pub seldom : ℕ → Bool
seldom zero = true
seldom (suc zero) = true
seldom (suc (suc n)) = false

-- what is pending is without fault, and then each argument has what was used
pub record Stands (third : Bool) (rows : List Row) (pending : Pending) (words values : List Text) (flags : Flags) : Type 0 where
  pub few_words : few third words ≡ true
  pub one_value : once values ≡ true
  pub few_flags : (f : Flag) → seldom (count f flags) ≡ true
  pub sound : settles third rows pending ≡ []
  pub finds : Finds (settled_rows (rules_of third) pending rows) words values flags

seldom_at_first : (f : Flag) → seldom (count f no_flags) ≡ true
seldom_at_first free = refl
seldom_at_first blif = refl

pub stands_at_first : (third : Bool) → Stands third [] None [] [] no_flags
stands_at_first third = record { few_words = refl; one_value = refl; few_flags = seldom_at_first; sound = refl; finds = Rattle.mv_command_line.proofs.Finds.finds_nothing }

-- the rows once what is pending is used
abbrev pub after : Bool → List Row → Pending → List Row
after third rows pending = settled_rows (rules_of third) pending rows

-- ---- one more word

pub one_word : (third : Bool) (rows : List Row) (pending : Pending) (values : List Text) (flags : Flags) (word : Text) → Stands third rows pending [] values flags
    → Stands third (after third rows pending) (Some (codes "first", word ∷ [])) (word ∷ []) values flags
one_word third rows pending values flags word s =
    let none = has_none (codes "first") (after third rows pending) s.finds.first in
    record { few_words = refl; one_value = s.one_value; few_flags = s.few_flags; sound = rw none refl; finds = with_first (after third rows pending) values flags word s.finds }

pub two_words : (third : Bool) (rows : List Row) (pending : Pending) (values : List Text) (flags : Flags) (a word : Text) → Stands third rows pending (a ∷ []) values flags
    → Stands third (after third rows pending) (Some (codes "second", word ∷ [])) (a ∷ word ∷ []) values flags
two_words third rows pending values flags a word s =
    let none = has_none (codes "second") (after third rows pending) s.finds.second in
    record { few_words = refl; one_value = s.one_value; few_flags = s.few_flags; sound = rw none refl; finds = with_second (after third rows pending) values flags a word s.finds }

pub three_words : (rows : List Row) (pending : Pending) (values : List Text) (flags : Flags) (a b word : Text) → Stands true rows pending (a ∷ b ∷ []) values flags
    → Stands true (after true rows pending) (Some (codes "third", word ∷ [])) (a ∷ b ∷ word ∷ []) values flags
three_words rows pending values flags a b word s =
    let none = has_none (codes "third") (after true rows pending) s.finds.third in
    record { few_words = refl; one_value = s.one_value; few_flags = s.few_flags; sound = rw none refl; finds = with_third (after true rows pending) values flags a b word s.finds }

-- ---- the value of `--budget`

-- it was attached
pub attached_fits : (third : Bool) (rows : List Row) (pending : Pending) (words : List Text) (flags : Flags) (v : Text) → Stands third rows pending words [] flags
    → (use_fault false budget_rule (v ∷ []) (after third rows pending) ≡ []) × Stands third (used budget_rule (v ∷ []) (after third rows pending)) None words (v ∷ []) flags
attached_fits third rows pending words flags v s =
    let none = has_none (codes "budget") (after third rows pending) s.finds.budget in
    (rw none refl, record { few_words = s.few_words; one_value = refl; few_flags = s.few_flags; sound = refl; finds = with_budget (after third rows pending) words flags v s.finds })

-- it is the next word
pub apart_fits : (third : Bool) (rows : List Row) (pending : Pending) (words : List Text) (flags : Flags) (v : Text) → Stands third rows pending words [] flags
    → Stands third (after third rows pending) (Some (codes "budget", v ∷ [])) words (v ∷ []) flags
apart_fits third rows pending words flags v s =
    let none = has_none (codes "budget") (after third rows pending) s.finds.budget in
    record { few_words = s.few_words; one_value = refl; few_flags = s.few_flags; sound = rw none refl; finds = with_budget (after third rows pending) words flags v s.finds }

-- a second value is at fault
pub second_value : (third : Bool) (rows : List Row) (pending : Pending) (words : List Text) (flags : Flags) (b v : Text) → Stands third rows pending words (b ∷ []) flags
    → use_fault false budget_rule (v ∷ []) (after third rows pending) ≡ [] → ⊥
second_value third rows pending words flags b v s e =
    let one = has_one (codes "budget") (after third rows pending) (row_with (codes "budget") b) s.finds.budget in
    some_fault ArgumentConflict [] (rw one at e)

-- ---- a flag

one_seldom : (f g : Flag) (flags : Flags) → count f flags ≡ 0 → seldom (count g flags) ≡ true → seldom (count g (more f flags)) ≡ true
one_seldom free free flags none few = ap (λ n. seldom (suc n)) none
one_seldom free blif flags none few = few
one_seldom blif free flags none few = few
one_seldom blif blif flags none few = ap (λ n. seldom (suc n)) none

module _ (third : Bool) (f : Flag) (rows : List Row) (pending : Pending) (words values : List Text) (flags : Flags) (s : Stands third rows pending words values flags) where
  found_so_often : (n : ℕ) → count f flags ≡ n → found (name_of f) (after third rows pending) ≡ flag_row (name_of f) n
  found_so_often n e = finds_flag f (after third rows pending) words values flags s.finds ∙ ap (flag_row (name_of f)) e

  pub flag_fits : count f flags ≡ 0
      → (use_fault false (flag_rule (name_of f)) [] (after third rows pending) ≡ [])
      × Stands third (used (flag_rule (name_of f)) [] (after third rows pending)) None words values (more f flags)
  flag_fits none =
      let no_row = has_none (name_of f) (after third rows pending) (found_so_often 0 none) in (
        rw no_row refl,
        record {
          few_words = s.few_words;
          one_value = s.one_value;
          few_flags = λ g. one_seldom f g flags none (s.few_flags g);
          sound = refl;
          finds = one_flag f (after third rows pending) words values flags (found_so_often 0 none) s.finds;
        },
      )

  -- a second one is at fault
  pub second_flag : (n : ℕ) → count f flags ≡ suc n → use_fault false (flag_rule (name_of f)) [] (after third rows pending) ≡ [] → ⊥
  second_flag n one e =
      let row = has_one (name_of f) (after third rows pending) _ (found_so_often (suc n) one) in
      some_fault ArgumentConflict [] (rw row at e)

-- ---- the end of the words

no_default : (rows : List Row) (a : Rule) → a.defaults ≡ [] → default_fault rows a ≡ []
no_default rows a e = rw e (ap (λ t. cond t [] (Rattle.clap.specs.Faults.given_default_fault a [])) (or_right (has_row a.id rows) true refl))

kept : (rows : List Row) (a : Rule) → a.defaults ≡ [] → with_default rows a ≡ rows
kept rows a e = rw e (⊎_elim (λ (y : has_row a.id rows ≡ true). rw y refl) (λ (n : has_row a.id rows ≡ false). rw n refl) (cases_Bool (has_row a.id rows)))

no_word_defaults : (third : Bool) (rows : List Row) → defaults_fault rows (word_rules third) ≡ []
unfolding defaults_fault
no_word_defaults true rows = rw (no_default rows first_rule refl, kept rows first_rule refl)
    (rw (no_default rows second_rule refl, kept rows second_rule refl) (rw (no_default rows third_rule refl) refl))
no_word_defaults false rows = rw (no_default rows first_rule refl, kept rows first_rule refl) (rw (no_default rows second_rule refl) refl)

-- the default of a flag is without fault
flag_default : (name : Text) (rows : List Row) → default_fault rows (flag_rule name) ≡ []
flag_default name rows = ⊎_elim (λ (y : has_row name rows ≡ true). rw y refl) (λ (n : has_row name rows ≡ false). rw n refl) (cases_Bool (has_row name rows))

no_defaults : (third : Bool) (rows : List Row) → defaults_fault rows (rules_of third) ≡ []
unfolding defaults_fault
no_defaults third rows =
    past (default_fault rows budget_rule) _ (no_default rows budget_rule refl)
    ∙ (ap (λ rs. defaults_fault rs (free_rule ∷ blif_rule ∷ word_rules third)) (kept rows budget_rule refl)
    ∙ (past (default_fault rows free_rule) _ (flag_default (codes "free") rows)
    ∙ (past (default_fault (with_default rows free_rule) blif_rule) _ (flag_default (codes "blif") (with_default rows free_rule)) ∙ no_word_defaults third (closed rows))))

words_kept : (third : Bool) (rows : List Row) → fold with_default rows (word_rules third) ≡ rows
words_kept true rows = rw (kept rows first_rule refl, kept rows second_rule refl, kept rows third_rule refl) refl
words_kept false rows = rw (kept rows first_rule refl, kept rows second_rule refl) refl

-- only the flags have a default
pub all_kept : (third : Bool) (rows : List Row) → fold with_default rows (rules_of third) ≡ closed rows
all_kept third rows = ap (λ rs. fold with_default (closed rs) (word_rules third)) (kept rows budget_rule refl) ∙ words_kept third (closed rows)

-- without a fault of what is pending there is one only where a word is missing
pub end_is : (third : Bool) (rows : List Row) (pending : Pending) → settles third rows pending ≡ []
    → end_fault third (held_at rows pending) ≡ check_fault (shape_of third) (closed (after third rows pending)) false
end_is third rows pending sound =
    let rest = after third rows pending in
    past (settles third rows pending) _ sound
    ∙ (past (defaults_fault rest (rules_of third)) _ (no_defaults third rest) ∙ ap (λ rs. check_fault (shape_of third) rs false) (all_kept third rest))

abbrev pub wanted : Bool → ℕ
wanted third = cond third 3 2

pub check_is : (third : Bool) (rows : List Row) (words values : List Text) (flags : Flags) → few third words ≡ true → Closes rows words values flags
    → check_fault (shape_of third) rows false ≡ cond (length words == wanted third) [] (MissingRequiredArgument ∷ [])
check_is true rows [] values flags h f = rw f.first refl
check_is false rows [] values flags h f = rw f.first refl
check_is true rows (a ∷ []) values flags h f = rw (f.first, f.second) refl
check_is false rows (a ∷ []) values flags h f = rw (f.first, f.second) refl
check_is true rows (a ∷ b ∷ []) values flags h f = rw (f.first, f.second, f.third) refl
check_is false rows (a ∷ b ∷ []) values flags h f = rw (f.first, f.second) refl
check_is true rows (a ∷ b ∷ c ∷ []) values flags h f = rw (f.first, f.second, f.third) refl
check_is false rows (a ∷ b ∷ c ∷ []) values flags h f = absurd (false≢true h)
check_is third rows (a ∷ b ∷ c ∷ d ∷ words) values flags h f = absurd (false≢true h)

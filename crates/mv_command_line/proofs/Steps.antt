-- The definition and clap agree on the words left, wherever the walk stands.
use Rattle.std.proofs.Common.{◌≡◌, ◌∙◌, ℕ, ◌==◌, Bool, true, false, cond, List, [], ◌∷◌, length, Option, Some, None, codes, refl, sym, subst, arith}
use Rattle.std.specs.Prelude.{fold}
use Rattle.clap.specs.Walk.{Row, Text, Waiting, arg_by_index, idle, value, with_default}
use Rattle.clap.specs.Faults.{walk_fault}
use Rattle.clap.specs.declared.error.kind.ErrorKind.TheVariants.{MissingRequiredArgument}
use Rattle.mv_command_line.specs.CommandLine.{Parts, only_words, with_word}
use Rattle.mv_command_line.specs.Given.{counted}
use Rattle.mv_command_line.proofs.Commands.{rules_of, word_rule}
use Rattle.mv_command_line.proofs.Counts.{joined, joined_all, joined_word, parts_with, word_too_many}
use Rattle.mv_command_line.proofs.Finds.{Closes, closed, closes}
use Rattle.mv_command_line.proofs.Flags.{Flags}
use Rattle.mv_command_line.proofs.Stands.{Stands, after, all_kept, check_is, end_is, one_word, three_words, two_words, wanted}
use Rattle.mv_command_line.proofs.Turns.{met, own_fault, settles, step_is, turn, turn_is, value_fault, value_held, value_strays}
use Rattle.mv_command_line.proofs.Walks.{Agrees, AgreesAt, Pending, faults, first_empty, goes_on, held_at, some_fault, stops_here, walk_at, first_passes}

-- the place of the next positional word
abbrev pub place : List Text → ℕ
place [] = 1
place (a ∷ []) = 2
place (a ∷ b ∷ []) = 3
place (a ∷ b ∷ c ∷ words) = 4

fourth : (third : Bool) → arg_by_index (rules_of third) 4 ≡ None
fourth true = refl
fourth false = refl

-- ---- no words are left

pub at_end : (third past_options : Bool) (rows : List Row) (pending : Pending) (words values : List Text) (flags : Flags) → Stands third rows pending words values flags
    → AgreesAt third (counted third (joined words values flags (Some (only_words [])))) (walk_at past_options idle (place words) rows pending) []
unfolding walk_fault
at_end third past_options rows pending words values flags s =
    let rest = after third rows pending in
    let last = closes rest words values flags s.finds in
    let fault = end_is third rows pending s.sound ∙ check_is third (closed rest) words values flags s.few_words last in
    subst (λ o. AgreesAt third o (walk_at past_options idle (place words) rows pending) []) (sym (joined_all third words values flags s.one_value s.few_flags))
    (subst (λ ks. Agrees (cond (length words == wanted third) (Some (parts_with words values flags)) None) ks (fold with_default rest (rules_of third))) (sym fault)
    (subst (λ rs. Agrees (cond (length words == wanted third) (Some (parts_with words values flags)) None) (cond (length words == wanted third) [] (MissingRequiredArgument ∷ [])) rs)
    (sym (all_kept third rest)) (go (length words == wanted third) last)))
  where
    go : (t : Bool) → Closes (closed (after third rows pending)) words values flags
        → Agrees (cond t (Some (parts_with words values flags)) None) (cond t [] (MissingRequiredArgument ∷ [])) (closed (after third rows pending))
    go true f = (refl, f)
    go false f = some_fault MissingRequiredArgument []

-- at the end a fault of what is pending is told
pub bad_end : (third past_options : Bool) (waiting : Waiting) (at : ℕ) (rows : List Row) (pending : Pending) → (settles third rows pending ≡ [] → ⊥)
    → faults third (walk_at past_options waiting at rows pending) [] ≡ [] → ⊥
unfolding walk_fault
bad_end third past_options waiting at rows pending bad e = bad (first_empty (settles third rows pending) _ e)

-- ---- a positional word

module _ (third past_options : Bool) (waiting : Waiting) (rows : List Row) (pending : Pending) (word : Text) where
  -- the turn of a word that goes to the positional of this place, or to none
  turn_placed : (id : Text) (at : ℕ) → arg_by_index (rules_of third) at ≡ Some (word_rule id at) → own_fault third past_options waiting rows pending word ≡ []
      → met third past_options waiting at rows pending word ≡ (held_at rows pending, value)
      → turn third (walk_at past_options waiting at rows pending) word ≡ settles third rows pending
  turn_placed id at found none is =
      turn_is third past_options waiting at rows pending word (held_at rows pending) value none is ∙ value_fault third id at rows pending found

  turn_strays : (at : ℕ) → arg_by_index (rules_of third) at ≡ None → own_fault third past_options waiting rows pending word ≡ []
      → met third past_options waiting at rows pending word ≡ (held_at rows pending, value)
      → turn third (walk_at past_options waiting at rows pending) word ≡ [] → ⊥
  turn_strays at missing none is e =
      some_fault _ _ (sym (turn_is third past_options waiting at rows pending word (held_at rows pending) value none is ∙ value_strays third at rows pending missing) ∙ e)

-- a word that is positional is at fault where what is pending is
pub bad_word : (third past_options : Bool) (waiting : Waiting) (words : List Text) (rows : List Row) (pending : Pending) (word : Text) → (settles third rows pending ≡ [] → ⊥)
    → own_fault third past_options waiting rows pending word ≡ [] → met third past_options waiting (place words) rows pending word ≡ (held_at rows pending, value)
    → turn third (walk_at past_options waiting (place words) rows pending) word ≡ [] → ⊥
bad_word third past_options waiting [] rows pending word bad none is e =
    bad (sym (turn_placed third past_options waiting rows pending word (codes "first") 1 refl none is) ∙ e)
bad_word third past_options waiting (a ∷ []) rows pending word bad none is e =
    bad (sym (turn_placed third past_options waiting rows pending word (codes "second") 2 refl none is) ∙ e)
bad_word true past_options waiting (a ∷ b ∷ []) rows pending word bad none is e =
    bad (sym (turn_placed true past_options waiting rows pending word (codes "third") 3 refl none is) ∙ e)
bad_word false past_options waiting (a ∷ b ∷ []) rows pending word bad none is e = turn_strays false past_options waiting rows pending word 3 refl none is e
bad_word third past_options waiting (a ∷ b ∷ c ∷ words) rows pending word bad none is e =
    turn_strays third past_options waiting rows pending word 4 (fourth third) none is e

-- a word that is positional, and the words behind it
pub word_step : (third past_options : Bool) (rows : List Row) (pending : Pending) (words values : List Text) (flags : Flags) (word : Text) (ws : List Text) (parts : Option Parts)
    → Stands third rows pending words values flags → own_fault third past_options idle rows pending word ≡ []
    → met third past_options idle (place words) rows pending word ≡ (held_at rows pending, value)
    → ((more : List Text) (rest : List Row) (held : Pending) → Stands third rest held more values flags → AgreesAt third (counted third (joined more values flags parts)) (walk_at past_options idle (place more) rest held) ws)
    → AgreesAt third (counted third (joined words values flags (with_word word parts))) (walk_at past_options idle (place words) rows pending) (word ∷ ws)
word_step third past_options rows pending [] values flags word ws parts s none is h =
    goes_on third _ (walk_at past_options idle 1 rows pending) (walk_at past_options idle 2 (after third rows pending) (Some (codes "first", word ∷ []))) word ws
    (turn_placed third past_options idle rows pending word (codes "first") 1 refl none is ∙ s.sound)
    (step_is third past_options idle 1 rows pending word (held_at rows pending) value is ∙ value_held third past_options (codes "first") 1 2 rows pending word refl refl)
    (subst (λ o. AgreesAt third (counted third o) (walk_at past_options idle 2 (after third rows pending) (Some (codes "first", word ∷ []))) ws)
    (sym (joined_word [] values flags word parts)) (h (word ∷ []) _ _ (one_word third rows pending values flags word s)))
word_step third past_options rows pending (a ∷ []) values flags word ws parts s none is h =
    goes_on third _ (walk_at past_options idle 2 rows pending) (walk_at past_options idle 3 (after third rows pending) (Some (codes "second", word ∷ []))) word ws
    (turn_placed third past_options idle rows pending word (codes "second") 2 refl none is ∙ s.sound)
    (step_is third past_options idle 2 rows pending word (held_at rows pending) value is ∙ value_held third past_options (codes "second") 2 3 rows pending word refl refl)
    (subst (λ o. AgreesAt third (counted third o) (walk_at past_options idle 3 (after third rows pending) (Some (codes "second", word ∷ []))) ws)
    (sym (joined_word (a ∷ []) values flags word parts)) (h (a ∷ word ∷ []) _ _ (two_words third rows pending values flags a word s)))
word_step true past_options rows pending (a ∷ b ∷ []) values flags word ws parts s none is h =
    goes_on true _ (walk_at past_options idle 3 rows pending) (walk_at past_options idle 4 (after true rows pending) (Some (codes "third", word ∷ []))) word ws
    (turn_placed true past_options idle rows pending word (codes "third") 3 refl none is ∙ s.sound)
    (step_is true past_options idle 3 rows pending word (held_at rows pending) value is ∙ value_held true past_options (codes "third") 3 4 rows pending word refl refl)
    (subst (λ o. AgreesAt true (counted true o) (walk_at past_options idle 4 (after true rows pending) (Some (codes "third", word ∷ []))) ws)
    (sym (joined_word (a ∷ b ∷ []) values flags word parts)) (h (a ∷ b ∷ word ∷ []) _ _ (three_words rows pending values flags a b word s)))
word_step false past_options rows pending (a ∷ b ∷ []) values flags word ws parts s none is h =
    stops_here false _ (walk_at past_options idle 3 rows pending) word ws (turn_strays false past_options idle rows pending word 3 refl none is)
    (word_too_many false (a ∷ b ∷ []) values flags word parts (omega arith))
word_step true past_options rows pending (a ∷ b ∷ c ∷ words) values flags word ws parts s none is h =
    stops_here true _ (walk_at past_options idle 4 rows pending) word ws (turn_strays true past_options idle rows pending word 4 refl none is)
    (word_too_many true (a ∷ b ∷ c ∷ words) values flags word parts (omega arith))
word_step false past_options rows pending (a ∷ b ∷ c ∷ words) values flags word ws parts s none is h =
    stops_here false _ (walk_at past_options idle 4 rows pending) word ws (turn_strays false past_options idle rows pending word 4 refl none is)
    (word_too_many false (a ∷ b ∷ c ∷ words) values flags word parts (omega arith))

-- ---- behind `--` every word is positional

pub behind_end : (third : Bool) (ws : List Text) (rows : List Row) (pending : Pending) (words values : List Text) (flags : Flags) → Stands third rows pending words values flags
    → AgreesAt third (counted third (joined words values flags (Some (only_words ws)))) (walk_at true idle (place words) rows pending) ws
behind_end third [] rows pending words values flags s = at_end third true rows pending words values flags s
behind_end third (word ∷ ws) rows pending words values flags s =
    word_step third true rows pending words values flags word ws (Some (only_words ws)) s refl refl
    (λ more rest held h. behind_end third ws rest held more values flags h)

-- and one of them, or the end, tells a fault of what is pending
pub bad_behind : (third : Bool) (waiting : Waiting) (ws words : List Text) (rows : List Row) (pending : Pending) → (settles third rows pending ≡ [] → ⊥)
    → faults third (walk_at true waiting (place words) rows pending) ws ≡ [] → ⊥
bad_behind third waiting [] words rows pending bad e = bad_end third true waiting (place words) rows pending bad e
bad_behind third waiting (word ∷ ws) words rows pending bad e =
    bad_word third true waiting words rows pending word bad refl refl (first_passes third (walk_at true waiting (place words) rows pending) word ws e)

-- The walk of clap over the words: its faults and rows word by word.
use Rattle.std.proofs.Common.{◌≡◌, ◌∙◌, ℕ, ◌+◌, ◌&&◌, Bool, true, false, cond, List, [], ◌∷◌, ◌++◌, length, Option, Some, None, codes, refl, sym, ap, subst}
use Rattle.std.specs.Prelude.{fold}
use Rattle.clap.specs.Kinds.{Kinds, or_else}
use Rattle.clap.specs.Walk.{Held, Row, Rule, Step, Text, Waiting, Walk, after_step, arg_by_index, finished, idle, is_pending, next, option, positional_held, settled, settled_rows, subcommand_met, trailing, used, value, walked, word_met, reacted}
use Rattle.clap.specs.Faults.{check_fault, defaults_fault, settle_fault, turn_fault, walk_fault}
use Rattle.clap.specs.declared.error.kind.ErrorKind.{ErrorKind}
use Rattle.clap.proofs.FaultLemmas.{past}
use Rattle.mv_command_line.specs.CommandLine.{Parts}
use Rattle.mv_command_line.proofs.Commands.{rules_of, shape_of}
use Rattle.mv_command_line.proofs.Finds.{Closes}
use Rattle.mv_command_line.proofs.Flags.{flags_of}

abbrev pub Pending : Type 0
Pending = Option (Text × List Text)

abbrev pub held_at : List Row → Pending → Held
held_at rows pending = record { rows = rows; pending = pending; skip = 0 }

-- where the walk stands between two words
abbrev pub walk_at : Bool → Waiting → ℕ → List Row → Pending → Walk
walk_at past_options waiting place rows pending = record {
  held = held_at rows pending;
  waiting = waiting;
  position = place;
  is_trailing = past_options;
  stopped = None;
}

-- the faults behind the walk, and those of a walk over the words left
abbrev pub end_fault : Bool → Held → Kinds
end_fault third h =
    or_else (settle_fault (rules_of third) false h)
    (or_else (defaults_fault (settled (rules_of third) h).rows (rules_of third)) (check_fault (shape_of third) (finished (rules_of third) h) false))

abbrev pub faults : Bool → Walk → List Text → Kinds
faults third w ws = or_else (walk_fault (shape_of third) [] w ws) (end_fault third (fold (walked (rules_of third) []) w ws).held)

abbrev pub rows_left : Bool → Walk → List Text → List Row
rows_left third w ws = finished (rules_of third) (fold (walked (rules_of third) []) w ws).held

or_else-assoc : (a b c : Kinds) → or_else (or_else a b) c ≡ or_else a (or_else b c)
or_else-assoc [] b c = refl
or_else-assoc (k ∷ ks) b c = refl

pub first_empty : (a b : Kinds) → or_else a b ≡ [] → a ≡ []
first_empty [] b e = refl
first_empty (k ∷ ks) b e = e

pub some_fault : (k : ErrorKind) (ks : Kinds) → k ∷ ks ≡ [] → ⊥
some_fault k ks e = absurd (omega (Rattle.std.proofs.Common.arith, ap length e))

faults_more : (third : Bool) (w : Walk) (word : Text) (ws : List Text)
    → faults third w (word ∷ ws) ≡ or_else (turn_fault (shape_of third) [] w word) (faults third (walked (rules_of third) [] w word) ws)
unfolding walk_fault
faults_more third w word ws = or_else-assoc (turn_fault (shape_of third) [] w word) _ _

pub first_passes : (third : Bool) (w : Walk) (word : Text) (ws : List Text) → faults third w (word ∷ ws) ≡ [] → turn_fault (shape_of third) [] w word ≡ []
first_passes third w word ws e = first_empty (turn_fault (shape_of third) [] w word) _ (sym (faults_more third w word ws) ∙ e)

-- ---- the definition and clap agree

-- where the parts are refused there is a fault, and else there is none, and the rows have the parts
abbrev pub Agrees : Option Parts → Kinds → List Row → Type 0
Agrees None kinds rows = kinds ≡ [] → ⊥
Agrees (Some p) kinds rows = (kinds ≡ []) × Closes rows p.words p.values (flags_of p)

abbrev pub AgreesAt : Bool → Option Parts → Walk → List Text → Type 0
AgreesAt third parts w ws = Agrees parts (faults third w ws) (rows_left third w ws)

-- the word passes, and the walk goes on
pub goes_on : (third : Bool) (parts : Option Parts) (w after : Walk) (word : Text) (ws : List Text) → turn_fault (shape_of third) [] w word ≡ []
    → walked (rules_of third) [] w word ≡ after → AgreesAt third parts after ws → AgreesAt third parts w (word ∷ ws)
goes_on third parts w after word ws passes is h =
    let same = faults_more third w word ws ∙ past (turn_fault (shape_of third) [] w word) _ passes in
    subst (λ ks. Agrees parts ks (rows_left third w (word ∷ ws))) (sym same) (subst (λ v. AgreesAt third parts v ws) (sym is) h)

-- the word is at fault, and the definition refuses
pub stops_here : (third : Bool) (parts : Option Parts) (w : Walk) (word : Text) (ws : List Text) → (turn_fault (shape_of third) [] w word ≡ [] → ⊥) → parts ≡ None
    → AgreesAt third parts w (word ∷ ws)
stops_here third parts w word ws fails none =
    subst (λ p. AgreesAt third p w (word ∷ ws)) (sym none)
    (λ e. fails (first_passes third w word ws e))

-- ---- what a word is to clap

pub no_subcommand : (waiting : Waiting) (word : Text) → subcommand_met [] waiting word ≡ None
no_subcommand idle word = refl
no_subcommand (option id) word = refl
no_subcommand Rattle.clap.specs.Walk.positional word = refl

-- Lists that tell something of names: where no name stands twice, each entry is what is told of its name.
use Rattle.std.proofs.Common.{◌≡◌, true, false, not, ℕ, List, [], ◌∷◌, map, ◌∙◌}
use Rattle.std.specs.Prelude.{if◌then◌else◌}
use Rattle.std.specs.List.{AllByRecursion}
use Rattle.std.proofs.lemmas.Bool.{and_parts, cond-true, cond-false, not-true, or_parts}
use Rattle.mv_base.specs.Names.{same_word, among, names_differ}
use Rattle.mv_base.proofs.NameLemmas.{same_word_refl, same_word_sym}

-- what a list tells of a name: what stands with the first place of the name, and d of other names
abbrev pub value_told : {X : Type 0} → X → List (List ℕ × X) → List ℕ → X
value_told d [] w = d
value_told d (e ∷ es) w = if same_word w e.0 then e.1 else value_told d es w

-- the names in a list
abbrev pub names_in : {X : Type 0} → List (List ℕ × X) → List (List ℕ)
names_in es = map (λ e. e.0) es

told_behind : {X : Type 0} (d : X) (e : List ℕ × X) (es fs : List (List ℕ × X)) → among e.0 (names_in fs) ≡ false → AllByRecursion (λ f. value_told d es f.0 ≡ f.1) fs
    → AllByRecursion (λ f. value_told d (e ∷ es) f.0 ≡ f.1) fs
told_behind d e es [] n h = tt
told_behind d e es (f ∷ fs) n h =
    let q = or_parts (same_word e.0 f.0) (among e.0 (names_in fs)) n in
    (cond-false _ _ _ (same_word_sym f.0 e.0 ∙ q.0) ∙ h.0, told_behind d e es fs q.1 h.1)

-- each entry is told
pub all_told : {X : Type 0} (d : X) (es : List (List ℕ × X)) → names_differ (names_in es) ≡ true → AllByRecursion (λ e. value_told d es e.0 ≡ e.1) es
all_told d [] h = tt
all_told d (e ∷ es) h =
    let q = and_parts (not (among e.0 (names_in es))) (names_differ (names_in es)) h in
    (cond-true _ _ _ (same_word_refl e.0), told_behind d e es es (not-true _ q.0) (all_told d es q.1))

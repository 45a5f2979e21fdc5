-- Numbers of values, points, literals and sets by tests that compute.
use Rattle.std.proofs.Common.{◌≡◌, ℕ, zero, suc, ◌^◌, ◌<◌, ◌≤◌, ◌&&◌, Bool, true, false, List, [], ◌∷◌, length, get_or, nat_lt, nat_le, refl, sym, ◌∙◌, inl, inr, true≢false, arith}
use Rattle.std.proofs.lemmas.Bool.{and_parts, cases_lt, ltb-true, leb-true}
use Rattle.mv_base.specs.Set.{empty, has}
use Rattle.mv_base.proofs.Sets.{has_above, least_of}
use Rattle.mv_diagram.specs.declared.cube.Literal.{Literal}
use Rattle.mv_diagram.specs.Choices.{AreChoices, set_at}
use Rattle.mv_diagram.specs.Cubes.{AscendingVars, HasSome}
use Rattle.mv_base.specs.declared.limits.TheConstants.{MAX_VALUES}
use Rattle.mv_base.specs.declared.number.Value.{Value}
use Rattle.mv_diagram.specs.Sound.{AreCounts}
use Rattle.mv_diagram.specs.Diagrams.{IsPoint, point_of}
use Rattle.std.specs.List.{All, list_all, slice_index}
use Rattle.std.proofs.lemmas.List.Elements.{All-weaker}
use Rattle.std.proofs.lemmas.List.Sums.{AllPass-from_list_all}

-- each number is from 1 to the limit
abbrev pub are_counts : List ℕ → Bool
are_counts [] = true
are_counts (c ∷ cs) = (nat_lt 0 c && nat_le c MAX_VALUES) && are_counts cs

pub counts_tested : (counts : List ℕ) → are_counts counts ≡ true → AreCounts counts
counts_tested counts h = record { some = some counts h; few = few counts h }
  where
    some : (counts : List ℕ) → are_counts counts ≡ true → (v : ℕ) → v < length counts → 0 < slice_index counts v
    some [] h v within = absurd (omega arith)
    some (c ∷ cs) h zero within = ltb-true 0 c (and_parts (nat_lt 0 c) (nat_le c MAX_VALUES) (and_parts (nat_lt 0 c && nat_le c MAX_VALUES) (are_counts cs) h).0).0
    some (c ∷ cs) h (suc v) within = some cs (and_parts (nat_lt 0 c && nat_le c MAX_VALUES) (are_counts cs) h).1 v (omega arith)

    few : (counts : List ℕ) → are_counts counts ≡ true → (v : ℕ) → v < length counts → slice_index counts v ≤ MAX_VALUES
    few [] h v within = absurd (omega arith)
    few (c ∷ cs) h zero within = leb-true c MAX_VALUES (and_parts (nat_lt 0 c) (nat_le c MAX_VALUES) (and_parts (nat_lt 0 c && nat_le c MAX_VALUES) (are_counts cs) h).0).1
    few (c ∷ cs) h (suc v) within = few cs (and_parts (nat_lt 0 c && nat_le c MAX_VALUES) (are_counts cs) h).1 v (omega arith)

-- each value is below its number
abbrev pub is_point : List ℕ → List Value → Bool
is_point [] [] = true
is_point [] (v ∷ vs) = false
is_point (c ∷ cs) [] = false
is_point (c ∷ cs) (v ∷ vs) = nat_lt v.0 c && is_point cs vs

pub point_tested : (counts : List ℕ) (values : List Value) → is_point counts values ≡ true → IsPoint counts values
point_tested counts values h = record { long = long counts values h; range = record { below = below counts values h } }
  where
    long : (counts : List ℕ) (values : List Value) → is_point counts values ≡ true → length values ≡ length counts
    long [] [] h = refl
    long [] (v ∷ vs) h = cc
    long (c ∷ cs) [] h = cc
    long (c ∷ cs) (v ∷ vs) h = let rest = long cs vs (and_parts (nat_lt v.0 c) (is_point cs vs) h).1 in omega arith

    below : (counts : List ℕ) (values : List Value) → is_point counts values ≡ true → (k : ℕ) → k < length counts → point_of values k < slice_index counts k
    below [] vs h k within = absurd (omega arith)
    below (c ∷ cs) [] h k within = cc
    below (c ∷ cs) (v ∷ vs) h zero within = ltb-true v.0 c (and_parts (nat_lt v.0 c) (is_point cs vs) h).0
    below (c ∷ cs) (v ∷ vs) h (suc k) within = below cs vs (and_parts (nat_lt v.0 c) (is_point cs vs) h).1 k (omega arith)

-- each is a variable
pub vars_tested : (counts vars : List ℕ) → list_all (λ v. nat_lt v (length counts)) vars ≡ true → All (λ v. v < length counts) vars
vars_tested counts vars h = All-weaker _ (λ v. v < length counts) (λ v less. ltb-true v (length counts) less) vars (AllPass-from_list_all (λ v. nat_lt v (length counts)) vars h)

-- each literal is of a variable
pub literals_tested : (counts : List ℕ) (literals : List Literal) → list_all (λ (l : Literal). nat_lt l.var (length counts)) literals ≡ true → All (λ (l : Literal). l.var < length counts) literals
literals_tested counts literals h = All-weaker _ (λ (l : Literal). l.var < length counts) (λ l less. ltb-true l.var (length counts) less) literals (AllPass-from_list_all (λ (l : Literal). nat_lt l.var (length counts)) literals h)

-- each is of a variable behind one
abbrev pub are_behind : ℕ → List Literal → Bool
are_behind v [] = true
are_behind v (l ∷ ls) = nat_lt v l.var && are_behind v ls

behind_at : (v : ℕ) (ls : List Literal) → are_behind v ls ≡ true → (k : ℕ) (d : Literal) → k < length ls → v < (get_or ls k d).var
behind_at v [] h k d less = absurd (omega arith)
behind_at v (l ∷ ls) h zero d less = ltb-true v l.var (and_parts (nat_lt v l.var) (are_behind v ls) h).0
behind_at v (l ∷ ls) h (suc k) d less = behind_at v ls (and_parts (nat_lt v l.var) (are_behind v ls) h).1 k d (omega arith)

-- their variables ascend
abbrev pub are_ascending : List Literal → Bool
are_ascending [] = true
are_ascending (l ∷ ls) = are_behind l.var ls && are_ascending ls

pub ascending_tested : (literals : List Literal) → are_ascending literals ≡ true → AscendingVars literals
ascending_tested literals h = record { each = each literals h }
  where
    each : (ls : List Literal) → are_ascending ls ≡ true → (i j : ℕ) (d : Literal) → i < j → j < length ls → (get_or ls i d).var < (get_or ls j d).var
    each [] h i j d less within = absurd (omega arith)
    each (l ∷ ls) h i zero d less within = absurd (omega arith)
    each (l ∷ ls) h zero (suc j) d less within = behind_at l.var ls (and_parts (are_behind l.var ls) (are_ascending ls) h).0 j d (omega arith)
    each (l ∷ ls) h (suc i) (suc j) d less within = each ls (and_parts (are_behind l.var ls) (are_ascending ls) h).1 i j d (omega arith) (omega arith)

-- a set has some of a variable's values, and no others
abbrev pub is_choice : ℕ → ℕ → Bool
is_choice c s = nat_le c MAX_VALUES && (nat_lt 0 s && nat_lt s (2 ^ c))

below_count : (c s v : ℕ) → s < 2 ^ c → has s v ≡ true → v < c
below_count c s v small is = elim (cases_lt v c) [ inl less ↦ less | inr more ↦ absurd (true≢false (sym is ∙ has_above c s v small more)) ]

bound_of : (c s : ℕ) → is_choice c s ≡ true → s < 2 ^ c
bound_of c s h = ltb-true s (2 ^ c) (and_parts (nat_lt 0 s) (nat_lt s (2 ^ c)) (and_parts (nat_le c MAX_VALUES) (nat_lt 0 s && nat_lt s (2 ^ c)) h).1).1

some_below : (c s : ℕ) → is_choice c s ≡ true → (v : ℕ) × (v < c) × (has s v ≡ true)
unfolding empty
some_below c s h =
    let both = and_parts (nat_le c MAX_VALUES) (nat_lt 0 s && nat_lt s (2 ^ c)) h in
    let few = leb-true c MAX_VALUES both.0 in
    let some = ltb-true 0 s (and_parts (nat_lt 0 s) (nat_lt s (2 ^ c)) both.1).0 in
    let small = bound_of c s h in
    let low = least_of s (record { below = λ v is. let b = below_count c s v small is in omega (arith, few, b) }) (λ e. absurd (omega (arith, some, e))) in
    (low.0, below_count c s low.0 small low.1.member, low.1.member)

abbrev pub are_choices : List ℕ → List ℕ → Bool
are_choices [] [] = true
are_choices [] (s ∷ ss) = false
are_choices (c ∷ cs) [] = false
are_choices (c ∷ cs) (s ∷ ss) = is_choice c s && are_choices cs ss

pub choices_tested : (counts sets : List ℕ) → are_choices counts sets ≡ true → AreChoices counts sets
choices_tested counts sets h = record { long = long counts sets h; some = some counts sets h; within = within counts sets h }
  where
    long : (counts sets : List ℕ) → are_choices counts sets ≡ true → length sets ≡ length counts
    long [] [] h = refl
    long [] (s ∷ ss) h = cc
    long (c ∷ cs) [] h = cc
    long (c ∷ cs) (s ∷ ss) h = let rest = long cs ss (and_parts (is_choice c s) (are_choices cs ss) h).1 in omega arith

    some : (counts sets : List ℕ) → are_choices counts sets ≡ true → (v : ℕ) → v < length counts → HasSome counts v (set_at sets v)
    some [] ss h v less = absurd (omega arith)
    some (c ∷ cs) [] h v less = cc
    some (c ∷ cs) (s ∷ ss) h zero less = let at = some_below c s (and_parts (is_choice c s) (are_choices cs ss) h).0 in record { value = at.0; below = at.1; is = at.2 }
    some (c ∷ cs) (s ∷ ss) h (suc v) less = let at = some cs ss (and_parts (is_choice c s) (are_choices cs ss) h).1 v (omega arith) in record { value = at.value; below = at.below; is = at.is }

    within : (counts sets : List ℕ) → are_choices counts sets ≡ true → (v value : ℕ) → v < length counts → has (set_at sets v) value ≡ true → value < slice_index counts v
    within [] ss h v value less is = absurd (omega arith)
    within (c ∷ cs) [] h v value less is = cc
    within (c ∷ cs) (s ∷ ss) h zero value less is = below_count c s value (bound_of c s (and_parts (is_choice c s) (are_choices cs ss) h).0) is
    within (c ∷ cs) (s ∷ ss) h (suc v) value less is = within cs ss (and_parts (is_choice c s) (are_choices cs ss) h).1 v value (omega arith) is

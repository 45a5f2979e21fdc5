-- The pairs of a row as a list: their readers, and their sums.
use Rattle.std.proofs.Common.{◌≡◌, ◌∙◌, ℕ, ◌+◌, ◌*◌, ◌<◌, ◌≤◌, Bool, true, false, cond, nat_eq, nat_lt, nat_cmp, Option, Some, None, List, [], ◌∷◌, length, suc, is_some}
use Rattle.std.proofs.Common.{All, if◌then◌else◌, refl, sym, ap, arith}
use Rattle.std.specs.Prelude.{slice_get, ◌&&◌, ◌||◌}
use Rattle.std.specs.BTreeMap.{is_at}
use Rattle.std.specs.List.{sum_by}
use Rattle.std.specs.List.Sorted.{IsStrictlySortedBy}
use Rattle.std.specs.Map.{lookup, keys_of, values_of}
use Rattle.std.specs.Option.{option_map, unwrap_or}
use Rattle.std.specs.declared.cmp.Ordering.TheVariants.{Less}
use Rattle.std.proofs.lemmas.Bool.{false≢true}
use Rattle.std.proofs.lemmas.Cmp.{nat_cmp_total, eq_by_cmp_equiv}
use Rattle.std.proofs.lemmas.List.Elements.{All-head, All-tail}
use Rattle.std.proofs.lemmas.List.Sums.{sum_by-cons}
use Rattle.std.proofs.lemmas.Map.Entries.{lookup_from_place, sum_by-remove_entry}
use Rattle.std.proofs.lemmas.Map.Keys.{IsDistinct-from_sorted, sorted_head, sorted_tail}
use Rattle.mv_base.proofs.Lists.{all_from}
use Rattle.mv_base.specs.declared.number.NetId.{NetId}
use Rattle.mv_graph.specs.Nets.{has_id, ids_ascend}
use Rattle.mv_gain.specs.declared.row.Pair.{Pair}
use Rattle.mv_gain.specs.Sums.{wide_of}

-- ---- readers

-- the readers, as nets
abbrev pub readers_of : List (ℕ × Pair) → List NetId
readers_of [] = []
readers_of (e ∷ es) = record { 0 = e.0 } ∷ readers_of es

pub length-readers_of : (es : List (ℕ × Pair)) → length (readers_of es) ≡ length es
length-readers_of [] = refl
length-readers_of (e ∷ es) = ap suc (length-readers_of es)

same_at : (n m : ℕ) → is_at (nat_cmp n) m ≡ nat_eq m n
same_at n m = grind (arith)

-- the first pair is it, or one of the others
one_more : (at same : Bool) (pair : Pair) (rest : Option Pair) (has : Bool) → at ≡ same → has ≡ is_some rest → (same || has) ≡ is_some (cond at (Some pair) rest)
one_more true true pair rest has e h = refl
one_more true false pair rest has e h = absurd (false≢true (sym e))
one_more false true pair rest has e h = absurd (false≢true e)
one_more false false pair rest has e h = h

-- a reader is among them where the row has it
pub has_reader : (es : List (ℕ × Pair)) (m : ℕ) → has_id (readers_of es) m ≡ is_some (lookup (is_at (nat_cmp m)) es)
has_reader [] m = refl
has_reader (e ∷ es) m = one_more (is_at (nat_cmp m) e.0) (nat_eq e.0 m) e.1 (lookup (is_at (nat_cmp m)) es) (has_id (readers_of es) m) (same_at m e.0) (has_reader es m)

less_below : (a b : ℕ) → nat_cmp a b ≡ Less → nat_lt a b ≡ true
less_below a b h = grind (arith, h)

both_true : {a b : Bool} → a ≡ true → b ≡ true → (a && b) ≡ true
both_true {a = true} {b = b} p q = q
both_true {a = false} {b = b} p q = p

pub readers_ascend : (es : List (ℕ × Pair)) → IsStrictlySortedBy nat_cmp (keys_of es) → ids_ascend (readers_of es) ≡ true
readers_ascend [] sorted = refl
readers_ascend (e ∷ []) sorted = refl
readers_ascend (e ∷ f ∷ es) sorted =
    let head = sorted_head nat_cmp e.0 (keys_of (f ∷ es)) sorted in
    both_true (less_below e.0 f.0 head.0) (readers_ascend (f ∷ es) (sorted_tail nat_cmp e.0 (keys_of (f ∷ es)) sorted))

-- ---- each pair

-- what holds of each pair that is found holds of all
pub all_found : (P : ℕ × Pair → Type 0) (es : List (ℕ × Pair)) → IsStrictlySortedBy nat_cmp (keys_of es) → ((m : ℕ) (pair : Pair) → lookup (is_at (nat_cmp m)) es ≡ Some pair → P (m, pair)) → All P es
all_found P es sorted each =
    all_from P es (λ i e h. each e.0 e.1 (lookup_from_place (eq_by_cmp_equiv nat_cmp_total) es i e.0 e.1 (IsDistinct-from_sorted nat_cmp (keys_of es) sorted) h))

-- ---- sums

-- a sum over the pairs is one over their readers
pub sum_same : (f : Pair → ℕ) (g : ℕ → ℕ) (es : List (ℕ × Pair)) → All (λ (e : ℕ × Pair). f e.1 ≡ g e.0) es → sum_by f (values_of es) ≡ sum_by (λ (r : NetId). g r.0) (readers_of es)
sum_same f g [] all = refl
sum_same f g (e ∷ es) all =
    let P : ℕ × Pair → Type 0 = λ d. f d.1 ≡ g d.0 in
    sum_by-cons f e.1 (values_of es)
    ∙ (ap (λ k. k + sum_by f (values_of es)) (All-head P e es all)
    ∙ (ap (λ k. g e.0 + k) (sum_same f g es (All-tail P e es all)) ∙ sym (sum_by-cons (λ (r : NetId). g r.0) (record { 0 = e.0 }) (readers_of es))))

-- and no more than one over their readers, where each pair has no more
pub sum_below : (f : Pair → ℕ) (g : ℕ → ℕ) (es : List (ℕ × Pair)) → All (λ (e : ℕ × Pair). f e.1 ≤ g e.0) es → sum_by f (values_of es) ≤ sum_by (λ (r : NetId). g r.0) (readers_of es)
sum_below f g [] all = omega arith
sum_below f g (e ∷ es) all =
    let P : ℕ × Pair → Type 0 = λ d. f d.1 ≤ g d.0 in
    let rest = sum_below f g es (All-tail P e es all) in
    omega (arith, All-head P e es all, rest, sum_by-cons f e.1 (values_of es), sum_by-cons (λ (r : NetId). g r.0) (record { 0 = e.0 }) (readers_of es))

pub sum_few : (f : Pair → ℕ) (top : ℕ) (es : List (ℕ × Pair)) → All (λ (e : ℕ × Pair). f e.1 ≤ top) es → sum_by f (values_of es) ≤ length es * top
sum_few f top [] all = omega arith
sum_few f top (e ∷ es) all =
    let P : ℕ × Pair → Type 0 = λ d. f d.1 ≤ top in
    let head = All-head P e es all in
    let rest = sum_few f top es (All-tail P e es all) in
    let sum = sum_by-cons f e.1 (values_of es) in
    grind (arith, head, rest, sum)

-- ---- pairs that are too wide

-- a pair at some place is too wide
abbrev HasWideEntry : List (ℕ × Pair) → Type 0
HasWideEntry es = (i : ℕ) × ((e : ℕ × Pair) × ((slice_get es i ≡ Some e) × (e.1.coming ≡ None)))

-- it is the first, or one of the others
first_wide : (e : ℕ × Pair) (es : List (ℕ × Pair)) (o : Option ℕ) → e.1.coming ≡ o → (wide_of e.1 ≡ 0 → HasWideEntry es) → HasWideEntry (e ∷ es)
first_wide e es None h rest = (0, (e, (refl, h)))
first_wide e es (Some count) h rest =
    let w = rest (ap (λ o. if is_some o then 0 else 1) h) in
    (suc w.0, (w.1.0, (w.1.1.0, w.1.1.1)))

-- where some are counted, one is found
some_wide : (es : List (ℕ × Pair)) → 0 < sum_by wide_of (values_of es) → HasWideEntry es
some_wide [] many = absurd (omega (arith, many))
some_wide (e ∷ es) many = first_wide e es e.1.coming refl (λ none. some_wide es (omega (arith, many, none, sum_by-cons wide_of e.1 (values_of es))))

pub found_wide : (es : List (ℕ × Pair)) → IsStrictlySortedBy nat_cmp (keys_of es) → 0 < sum_by wide_of (values_of es)
    → (m : ℕ) × ((pair : Pair) × ((lookup (is_at (nat_cmp m)) es ≡ Some pair) × (pair.coming ≡ None)))
found_wide es sorted many =
    let w = some_wide es many in
    (w.1.0.0, (w.1.0.1, (lookup_from_place (eq_by_cmp_equiv nat_cmp_total) es w.0 w.1.0.0 w.1.0.1 (IsDistinct-from_sorted nat_cmp (keys_of es) sorted) w.1.1.0, w.1.1.1)))

-- where none is counted, none is too wide
pub none_wide : (es : List (ℕ × Pair)) (m : ℕ) (pair : Pair) → sum_by wide_of (values_of es) ≡ 0 → lookup (is_at (nat_cmp m)) es ≡ Some pair → pair.coming ≡ None → ⊥
none_wide es m pair none some wide =
    let less = sum_by-remove_entry wide_of (is_at (nat_cmp m)) es in
    let it : unwrap_or (option_map wide_of (lookup (is_at (nat_cmp m)) es)) 0 ≡ wide_of pair = ap (λ o. unwrap_or (option_map wide_of o) 0) some in
    let one : wide_of pair ≡ 1 = ap (λ o. if is_some o then 0 else 1) wide in
    omega (arith, less, it, one, none)

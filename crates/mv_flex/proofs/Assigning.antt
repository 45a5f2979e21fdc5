-- Lists of values and assignments.
use Rattle.std.proofs.Common.{◌≡◌, ◌⊎◌, ◌∙◌, ℕ, zero, suc, ◌<◌, ◌≤◌, Bool, true, false, ◌&&◌, ◌||◌, nat_eq, cond, List, [], ◌∷◌, ◌++◌, filter, length, refl, sym, ap, subst, inl, inr, ⊎_elim, arith}
use Rattle.std.specs.List.{list_all}
use Rattle.std.proofs.lemmas.Bool.{cases_Bool, false≢true, or_cases, or_right, or_parts, and_parts, and_from, eqb-true, cases_lt}
use Rattle.std.proofs.lemmas.Map.Views.{any-filter_same}
use Rattle.mv_base.specs.declared.number.NetId.{NetId}
use Rattle.mv_graph.specs.Nets.{has_id}
use Rattle.mv_flex.specs.Spaces.{value_at, AreBelow}
use Rattle.mv_flex.specs.Plans.{values_of}
use Rattle.mv_flex.proofs.Held.{has_head}

-- ---- tests of the nets of a list

-- a test of all nets passes at each
pub all_each : (p : ℕ → Bool) (ns : List NetId) → list_all (λ (k : NetId). p k.0) ns ≡ true → (m : ℕ) → has_id ns m ≡ true → p m ≡ true
all_each p [] all m h = absurd (false≢true h)
all_each p (n ∷ ns) all m h =
    let both = and_parts (p n.0) (list_all (λ (k : NetId). p k.0) ns) all in
    ⊎_elim
    (λ (y : nat_eq n.0 m ≡ true). ap p (sym (eqb-true n.0 m y)) ∙ both.0)
    (λ (later : has_id ns m ≡ true). all_each p ns both.1 m later)
    (or_cases (nat_eq n.0 m) (has_id ns m) h)

-- and the other way round
pub each_all : (p : ℕ → Bool) (ns : List NetId) → ((m : ℕ) → has_id ns m ≡ true → p m ≡ true) → list_all (λ (k : NetId). p k.0) ns ≡ true
each_all p [] each = refl
each_all p (n ∷ ns) each =
    and_from (p n.0) (list_all (λ (k : NetId). p k.0) ns) (each n.0 (has_head n ns)) (each_all p ns (λ m h. each m (or_right (nat_eq n.0 m) (has_id ns m) h)))

-- the nets that pass a test
pub has_filtered : (test : ℕ → Bool) (ns : List NetId) (m : ℕ) → has_id (filter (λ (n : NetId). test n.0) ns) m ≡ (test m && has_id ns m)
has_filtered test ns m = any-filter_same (λ (n : NetId). nat_eq n.0 m) (λ (n : NetId). test n.0) (test m) (λ n e. ap test (eqb-true n.0 m e)) ns

-- ---- values below the numbers of values

-- the values of an assignment that gives each of the nets one of its values
pub below_from : (counts at : ℕ → ℕ) (ns : List NetId) → ((m : ℕ) → has_id ns m ≡ true → at m < counts m) → AreBelow (values_of counts ns) (values_of at ns)
below_from counts at [] low = tt
below_from counts at (n ∷ ns) low = (low n.0 (has_head n ns), below_from counts at ns (λ m h. low m (or_right (nat_eq n.0 m) (has_id ns m) h)))

-- the assignment of such values
pub value_at-below : (counts : ℕ → ℕ) (ns : List NetId) (vs : List ℕ) (m : ℕ) → AreBelow (values_of counts ns) vs → has_id ns m ≡ true → value_at ns vs m < counts m
value_at-below counts [] vs m below h = absurd (false≢true h)
value_at-below counts (n ∷ ns) [] m below h = absurd below
value_at-below counts (n ∷ ns) (v ∷ vs) m below h =
    ⊎_elim
    (λ (y : nat_eq n.0 m ≡ true).
    subst (λ k. k < counts m) (sym (λ i. cond (y i) v (value_at ns vs m))) (subst (λ k. v < counts k) (eqb-true n.0 m y) below.0))
    (λ (o : nat_eq n.0 m ≡ false).
    subst (λ k. k < counts m) (sym (λ i. cond (o i) v (value_at ns vs m))) (value_at-below counts ns vs m below.1 (ap (λ b. b || has_id ns m) (sym o) ∙ h)))
    (cases_Bool (nat_eq n.0 m))

pub below_both : (cs ds vs us : List ℕ) → AreBelow cs vs → AreBelow ds us → AreBelow (cs ++ ds) (vs ++ us)
below_both [] ds [] us b e = e
below_both [] ds (v ∷ vs) us b e = absurd b
below_both (c ∷ cs) ds [] us b e = absurd b
below_both (c ∷ cs) ds (v ∷ vs) us b e = (b.0, below_both cs ds vs us b.1 e)

-- a net that isn't one of the first has its value among the last
pub value_at-behind : (ns ms : List NetId) (vs us : List ℕ) (m : ℕ) → length vs ≡ length ns → has_id ns m ≡ false → value_at (ns ++ ms) (vs ++ us) m ≡ value_at ms us m
value_at-behind [] ms [] us m e h = refl
value_at-behind [] ms (v ∷ vs) us m e h = absurd (omega (arith, e))
value_at-behind (n ∷ ns) ms [] us m e h = absurd (omega (arith, e))
value_at-behind (n ∷ ns) ms (v ∷ vs) us m e h =
    let both = or_parts (nat_eq n.0 m) (has_id ns m) h in
    (λ i. cond (both.0 i) v (value_at (ns ++ ms) (vs ++ us) m)) ∙ value_at-behind ns ms vs us m (omega (arith, e)) both.1

-- the same values where the assignments are the same
pub values_same : (x y : ℕ → ℕ) (ns : List NetId) → ((m : ℕ) → has_id ns m ≡ true → x m ≡ y m) → values_of x ns ≡ values_of y ns
values_same x y [] same = refl
values_same x y (n ∷ ns) same =
    let here = same n.0 (has_head n ns) in
    let rest = values_same x y ns (λ m h. same m (or_right (nat_eq n.0 m) (has_id ns m) h)) in
    λ i. here i ∷ rest i

-- ---- numbers below a bound

-- a test passes at some number below the bound, or fails at each
pub search_below : (p : ℕ → Bool) (k : ℕ) → ((h : ℕ) × (h < k) × (p h ≡ true)) ⊎ ((h : ℕ) → h < k → p h ≡ false)
search_below p zero = inr (λ h low. absurd (omega (arith, low)))
search_below p (suc k) =
    ⊎_elim
    (λ (found : (h : ℕ) × (h < k) × (p h ≡ true)). inl (found.0, omega (arith, found.1), found.2))
    (λ (none : (h : ℕ) → h < k → p h ≡ false).
    ⊎_elim
    (λ (y : p k ≡ true). inl (k, omega arith, y))
    (λ (f : p k ≡ false).
    inr
    (λ h low.
    ⊎_elim
    (λ (less : h < k). none h less)
    (λ (last : k ≤ h). let e : h ≡ k = omega (arith, low, last) in ap p e ∙ f)
    (cases_lt h k)))
    (cases_Bool (p k)))
    (search_below p k)

-- Lists of nets none of which stands twice, and the places of nets.
use Rattle.std.proofs.Common.{◌≡◌, ◌∙◌, ℕ, ◌<◌, ◌≤◌, Bool, true, false, not, ◌||◌, nat_eq, List, [], ◌∷◌, length, get_or, map, take, refl, sym, ap, arith, IsPermutation, eq-eqb}
use Rattle.std.specs.List.{list_any, AllByRecursion, IsDistinct}
use Rattle.std.proofs.lemmas.Bool.{and_parts, and_from, or_parts, or_from, not-true, not_from_false, false≢true}
use Rattle.std.proofs.lemmas.List.{get_or-take, length-take, length-map}
use Rattle.std.proofs.lemmas.Map.Keys.{IsDistinct-head, IsDistinct-tail, IsDistinct-cons, IsDistinct-IsPermutation, apart_from_distinct}
use Rattle.std.proofs.lemmas.Map.Steps.{length-le_from_distinct_below}
use Rattle.mv_base.specs.declared.number.NetId.{NetId}
use Rattle.mv_graph.specs.Nets.{all_differ, has_id}
use Rattle.mv_graph.proofs.Nets.{has_id-at, id_eq}
use Rattle.mv_dag.proofs.Gains.{nat_eq-turned, id_among}

-- ---- none stands twice

none_of : {X : Type 0} (p : X → Bool) (xs : List X) → list_any p xs ≡ false → AllByRecursion (λ x. p x ≡ false) xs
none_of p [] h = tt
none_of p (x ∷ xs) h = let r = or_parts (p x) (list_any p xs) h in (r.0, none_of p xs r.1)

any_of : {X : Type 0} (p : X → Bool) (xs : List X) → AllByRecursion (λ x. p x ≡ false) xs → list_any p xs ≡ false
any_of p [] h = refl
any_of p (x ∷ xs) h = or_from (p x) (list_any p xs) h.0 (any_of p xs h.1)

IsDistinct-none : {X : Type 0} (e : X → X → Bool) → IsDistinct e []
unfolding IsDistinct
IsDistinct-none e = tt

pub distinct_from_differ : (ns : List NetId) → all_differ ns ≡ true → IsDistinct id_eq ns
distinct_from_differ [] h = IsDistinct-none id_eq
distinct_from_differ (n ∷ ns) h =
    let p = and_parts (not (has_id ns n.0)) (all_differ ns) h in
    IsDistinct-cons id_eq n ns (none_of (id_eq n) ns (id_among ns n ∙ not-true (has_id ns n.0) p.0)) (distinct_from_differ ns p.1)

-- the nets of a set differ
pub differ_from_distinct : (ns : List NetId) → IsDistinct id_eq ns → all_differ ns ≡ true
differ_from_distinct [] h = refl
differ_from_distinct (n ∷ ns) h =
    and_from (not (has_id ns n.0)) (all_differ ns)
    (not_from_false (has_id ns n.0) (sym (id_among ns n) ∙ any_of (id_eq n) ns (IsDistinct-head id_eq n ns h)))
    (differ_from_distinct ns (IsDistinct-tail id_eq n ns h))

-- nets in another order
pub all_differ-IsPermutation : (xs ys : List NetId) → IsPermutation xs ys → all_differ xs ≡ true → all_differ ys ≡ true
all_differ-IsPermutation xs ys p h =
    differ_from_distinct ys (IsDistinct-IsPermutation id_eq (λ x y. nat_eq-turned x.0 y.0) xs ys p (distinct_from_differ xs h))

-- nets at different places differ
pub places_differ : (ns : List NetId) (i j : ℕ) (d : NetId) → all_differ ns ≡ true → i < j → j < length ns → (get_or ns j d).0 ≡ (get_or ns i d).0 → ⊥
places_differ ns i j d h lt low e =
    false≢true (sym (apart_from_distinct id_eq ns i j d (distinct_from_differ ns h) lt low) ∙ eq-eqb (get_or ns i d).0 (get_or ns j d).0 (sym e))

-- ---- a net among the first of a list

pub in_front : (ns : List NetId) (place k : ℕ) (d : NetId) → k < place → k < length ns → has_id (take place ns) (get_or ns k d).0 ≡ true
in_front ns place k d lt low =
    let is : get_or (take place ns) k d ≡ get_or ns k d = get_or-take place ns k d lt in
    let inside : k < length (take place ns) = simp length-take (omega arith) in
    ap (λ (x : NetId). has_id (take place ns) x.0) (sym is) ∙ has_id-at (take place ns) k d inside

-- ---- the numbers of nets

abbrev pub numbers : List NetId → List ℕ
numbers ns = map (λ (n : NetId). n.0) ns

has-numbers : (ns : List NetId) (n : ℕ) → list_any (nat_eq n) (numbers ns) ≡ has_id ns n
has-numbers [] n = refl
has-numbers (m ∷ ns) n = λ i. nat_eq-turned n m.0 i || has-numbers ns n i

distinct_numbers : (ns : List NetId) → all_differ ns ≡ true → IsDistinct nat_eq (numbers ns)
distinct_numbers [] h = IsDistinct-none nat_eq
distinct_numbers (n ∷ ns) h =
    let p = and_parts (not (has_id ns n.0)) (all_differ ns) h in
    IsDistinct-cons nat_eq n.0 (numbers ns) (none_of (nat_eq n.0) (numbers ns) (has-numbers ns n.0 ∙ not-true (has_id ns n.0) p.0)) (distinct_numbers ns p.1)

-- nets below a number none of which stands twice are no more than that
pub few_nets : (ns : List NetId) (size : ℕ) → all_differ ns ≡ true → ((n : ℕ) → has_id ns n ≡ true → n < size) → length ns ≤ size
few_nets ns size h below =
    let e : length (numbers ns) ≡ length ns = length-map ns (λ (n : NetId). n.0) in
    let few : length (numbers ns) ≤ size = length-le_from_distinct_below (numbers ns) size (distinct_numbers ns h) (λ q y. below q (sym (has-numbers ns q) ∙ y)) in
    omega arith

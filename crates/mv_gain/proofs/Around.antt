-- A net has no more readers than there are nets, a list of as many as it has is that of all, and a sum over fewer is no more.
use Rattle.std.proofs.Common.{◌≡◌, ◌∙◌, ◌⊎◌, ℕ, ◌+◌, ◌<◌, ◌≤◌, true, nat_eq, nat_lt, Option, None, List, [], ◌∷◌, length, is_some, inl, inr, refl, sym, ap, ⊎_elim, eq-eqb, eqb-true, arith}
use Rattle.std.specs.List.{sum_by}
use Rattle.std.proofs.lemmas.Bool.{and_parts, cases_lt, false≢true, ltb-true, or_cases, or_left, or_right}
use Rattle.std.proofs.lemmas.List.{get_or_past}
use Rattle.std.proofs.lemmas.List.Sums.{sum_by-cons}
use Rattle.mv_base.specs.declared.number.NetId.{NetId}
use Rattle.mv_graph.specs.Nets.{has_id, ids_ascend}
use Rattle.mv_graph.proofs.Nets.{above_first}
use Rattle.mv_net.specs.declared.parts.FlatNet.{FlatNet}
use Rattle.mv_net.specs.Nets.{slot, table_in, net_reads, reads_in}

-- ascending numbers below an end are no more than there is room for from the first on
short_from : (n : NetId) (ns : List NetId) (end : ℕ) → ids_ascend (n ∷ ns) ≡ true → ((m : ℕ) → has_id (n ∷ ns) m ≡ true → m < end) → n.0 + length (n ∷ ns) ≤ end
short_from n [] end up below = let low = below n.0 (or_left (nat_eq n.0 n.0) (has_id [] n.0) (eq-eqb n.0 n.0 refl)) in omega (arith, low)
short_from n (k ∷ ks) end up below =
    let parts = and_parts (nat_lt n.0 k.0) (ids_ascend (k ∷ ks)) up in
    let rest = short_from k ks end parts.1 (λ m h. below m (or_right (nat_eq n.0 m) (has_id (k ∷ ks) m) h)) in
    omega (arith, ltb-true n.0 k.0 parts.0, rest)

-- no net past the last reads anything
reader_below : (nets : List (Option FlatNet)) (n k : ℕ) → reads_in nets k n ≡ true → k < length nets
reader_below nets n k reads =
    ⊎_elim
    (λ (low : k < length nets). low)
    (λ (past : length nets ≤ k). absurd (false≢true (sym (ap (λ g. net_reads g n) (get_or_past nets k None past)) ∙ reads)))
    (cases_lt k (length nets))

-- nor has a table
pub tabled_below : (nets : List (Option FlatNet)) (n : ℕ) → is_some (table_in (slot nets n)) ≡ true → n < length nets
tabled_below nets n tabled =
    ⊎_elim
    (λ (low : n < length nets). low)
    (λ (past : length nets ≤ n). absurd (false≢true (sym (ap (λ g. is_some (table_in g)) (get_or_past nets n None past)) ∙ tabled)))
    (cases_lt n (length nets))

-- ascending readers of a net are no more than there are nets
pub few_readers : (nets : List (Option FlatNet)) (n : ℕ) (list : List NetId) → ids_ascend list ≡ true → ((m : ℕ) → has_id list m ≡ true → reads_in nets m n ≡ true) → length list ≤ length nets
few_readers nets n [] up reads = omega arith
few_readers nets n (r ∷ rs) up reads = omega (arith, short_from r rs (length nets) up (λ m h. reader_below nets n m (reads m h)))

-- ---- ascending lists

rest_ascends : (n : NetId) (ns : List NetId) → ids_ascend (n ∷ ns) ≡ true → ids_ascend ns ≡ true
rest_ascends n [] up = refl
rest_ascends n (k ∷ ks) up = (and_parts (nat_lt n.0 k.0) (ids_ascend (k ∷ ks)) up).1

in_first_or_rest : (n : NetId) (ns : List NetId) (m : ℕ) → has_id (n ∷ ns) m ≡ true → (n.0 ≡ m) ⊎ (has_id ns m ≡ true)
in_first_or_rest n ns m h =
    ⊎_elim
    (λ (here : nat_eq n.0 m ≡ true). inl (eqb-true n.0 m here))
    (λ (rest : has_id ns m ≡ true). inr rest)
    (or_cases (nat_eq n.0 m) (has_id ns m) h)

first_in : (n : NetId) (ns : List NetId) → has_id (n ∷ ns) n.0 ≡ true
first_in n ns = or_left (nat_eq n.0 n.0) (has_id ns n.0) (eq-eqb n.0 n.0 refl)

-- one list is within another
abbrev Within : List NetId → List NetId → Type 0
Within xs ys = (m : ℕ) → has_id xs m ≡ true → has_id ys m ≡ true

-- what is within a list and past its first is within the rest
within_rest : (xs : List NetId) (y : NetId) (ys : List NetId) → Within xs (y ∷ ys) → ((m : ℕ) → has_id xs m ≡ true → y.0 < m) → Within xs ys
within_rest xs y ys within past m h =
    ⊎_elim
    (λ (e : y.0 ≡ m). absurd (omega (arith, past m h, e)))
    (λ (rest : has_id ys m ≡ true). rest)
    (in_first_or_rest y ys m (within m h))

-- the first of a list within another isn't below its first
first_not_below : (x : NetId) (xs : List NetId) (y : NetId) (ys : List NetId) → ids_ascend (y ∷ ys) ≡ true → Within (x ∷ xs) (y ∷ ys) → y.0 ≤ x.0
first_not_below x xs y ys up within =
    ⊎_elim
    (λ (e : y.0 ≡ x.0). omega (arith, e))
    (λ (rest : has_id ys x.0 ≡ true). let low = above_first y ys x.0 up rest in omega (arith, low))
    (in_first_or_rest y ys x.0 (within x.0 (first_in x xs)))

-- so it is no longer
no_longer : (xs ys : List NetId) → ids_ascend xs ≡ true → ids_ascend ys ≡ true → Within xs ys → length xs ≤ length ys
no_longer [] ys up over within = omega arith
no_longer (x ∷ xs) [] up over within = absurd (false≢true (within x.0 (first_in x xs)))
no_longer (x ∷ xs) (y ∷ ys) up over within =
    let low = first_not_below x xs y ys over within in
    let past : (m : ℕ) → has_id xs m ≡ true → y.0 < m = λ m h. let above = above_first x xs m up h in omega (arith, low, above) in
    let rest = no_longer xs ys (rest_ascends x xs up) (rest_ascends y ys over) (within_rest xs y ys (λ m h. within m (or_right (nat_eq x.0 m) (has_id xs m) h)) past) in
    omega (arith, rest)

-- what comes before the first of an ascending list comes before all
not_before : (x : NetId) (xs : List NetId) (y : NetId) → y.0 < x.0 → ids_ascend (x ∷ xs) ≡ true → (k : ℕ) → has_id (x ∷ xs) k ≡ true → y.0 < k
not_before x xs y less up k i =
    ⊎_elim
    (λ (e : x.0 ≡ k). omega (arith, less, e))
    (λ (in_rest : has_id xs k ≡ true). let above = above_first x xs k up in_rest in omega (arith, less, above))
    (in_first_or_rest x xs k i)

-- and where it is as long, it has all
pub as_long_all : (xs ys : List NetId) → ids_ascend xs ≡ true → ids_ascend ys ≡ true → Within xs ys → length xs ≡ length ys → Within ys xs
as_long_all [] [] up over within same m h = h
as_long_all [] (y ∷ ys) up over within same m h = absurd (omega (arith, same))
as_long_all (x ∷ xs) [] up over within same m h = absurd (false≢true h)
as_long_all (x ∷ xs) (y ∷ ys) up over within same m h =
    let low = first_not_below x xs y ys over within in
    let past : (m : ℕ) → has_id xs m ≡ true → y.0 < m = λ k i. let above = above_first x xs k up i in omega (arith, low, above) in
    let rest = within_rest xs y ys (λ k i. within k (or_right (nat_eq x.0 k) (has_id xs k) i)) past in
    ⊎_elim
    (λ (e : y.0 ≡ m).
    ⊎_elim
    (λ (less : y.0 < x.0). absurd (omega (arith, same, no_longer (x ∷ xs) ys up (rest_ascends y ys over) (within_rest (x ∷ xs) y ys within (λ k i. not_before x xs y less up k i)))))
    (λ (more : x.0 ≤ y.0). or_left (nat_eq x.0 m) (has_id xs m) (eq-eqb x.0 m (omega (arith, low, more, e))))
    (cases_lt y.0 x.0))
    (λ (later : has_id ys m ≡ true). or_right (nat_eq x.0 m) (has_id xs m) (as_long_all xs ys (rest_ascends x xs up) (rest_ascends y ys over) rest (omega (arith, same)) m later))
    (in_first_or_rest y ys m h)

-- ---- sums

-- a sum over a list within another is no more than that over the other
pub sum_within : (g : ℕ → ℕ) (xs ys : List NetId) → ids_ascend xs ≡ true → ids_ascend ys ≡ true → ((m : ℕ) → has_id xs m ≡ true → has_id ys m ≡ true)
    → sum_by (λ (r : NetId). g r.0) xs ≤ sum_by (λ (r : NetId). g r.0) ys
sum_within g [] ys up over within = omega arith
sum_within g (x ∷ xs) [] up over within = absurd (false≢true (within x.0 (first_in x xs)))
sum_within g (x ∷ xs) (y ∷ ys) up over within =
    let f : NetId → ℕ = λ r. g r.0 in
    let low = first_not_below x xs y ys over within in
    let past : (m : ℕ) → has_id xs m ≡ true → y.0 < m = λ k i. let above = above_first x xs k up i in omega (arith, low, above) in
    ⊎_elim
    (λ (less : y.0 < x.0).
    let rest = sum_within g (x ∷ xs) ys up (rest_ascends y ys over) (within_rest (x ∷ xs) y ys within (λ k i. not_before x xs y less up k i)) in
    omega (arith, rest, sum_by-cons f y ys))
    (λ (more : x.0 ≤ y.0).
    let rest =
    sum_within g xs ys (rest_ascends x xs up) (rest_ascends y ys over) (within_rest xs y ys (λ k i. within k (or_right (nat_eq x.0 k) (has_id xs k) i)) past) in
    let same : x.0 ≡ y.0 = omega (arith, low, more) in
    omega (arith, rest, ap g same, sum_by-cons f x xs, sum_by-cons f y ys))
    (cases_lt y.0 x.0)

-- The nets at the first places of an order.
use Rattle.std.proofs.Common.{◌≡◌, ◌∙◌, ℕ, ◌+◌, ◌<◌, ◌≤◌, true, false, ◌||◌, not, nat_eq, List, [], ◌∷◌, ◌++◌, length, get_or, take, drop, ◌-◌, Option, refl, sym, ap, ⊎_elim, eq-eqb, eqb-true, arith, suc, take-append-drop}
use Rattle.std.proofs.Math.Seq.{drop-cons}
use Rattle.std.specs.List.{slice_range}
use Rattle.std.proofs.lemmas.Bool.{cases_Bool, cases_eq, and_from, or_cases, or_left, or_right, false≢true, and_parts, not-true, ne_eqb}
use Rattle.std.proofs.lemmas.List.{take-take, drop-take, get_or-drop, length-drop}
use Rattle.std.proofs.lemmas.Option.{slice_get-get_or}
use Rattle.mv_base.specs.declared.number.NetId.{NetId}
use Rattle.mv_graph.specs.Nets.{has_id, all_differ}
use Rattle.mv_graph.specs.Sorting.{net_at}
use Rattle.mv_graph.proofs.Nets.{has_id-append, has_id-more, has_id-at}
use Rattle.mv_graph.proofs.Columns.{id_at}
use Rattle.mv_net.specs.declared.parts.FlatNet.{FlatNet}
use Rattle.mv_net.specs.Nets.{reads_in}
use Rattle.mv_net.specs.Order.{IsOrder}
use Rattle.mv_solve.specs.Marks.{between}

pub has_first : (ns : List NetId) (k m : ℕ) → has_id (take k ns) m ≡ true → has_id ns m ≡ true
has_first ns k m h = ap (λ l. has_id l m) (sym (take-append-drop k ns)) ∙ (has_id-append (take k ns) (drop k ns) m ∙ or_left (has_id (take k ns) m) (has_id (drop k ns) m) h)

pub has_further : (ns : List NetId) (a b m : ℕ) → a ≤ b → has_id (take a ns) m ≡ true → has_id (take b ns) m ≡ true
has_further ns a b m le h = has_first (take b ns) a m (ap (λ l. has_id l m) (take-take a b ns le) ∙ h)

-- the net at the next place
pub has_more : (ns : List NetId) (k m : ℕ) → k < length ns → has_id (take (k + 1) ns) m ≡ (has_id (take k ns) m || nat_eq (net_at ns k) m)
has_more ns k m lt = let none : NetId = record { 0 = 0 } in has_id-more ns k (get_or ns k none) none m lt refl

pub has_at : (ns : List NetId) (k : ℕ) → k < length ns → has_id ns (net_at ns k) ≡ true
has_at ns k lt = let none : NetId = record { 0 = 0 } in has_id-at ns k none lt

-- the net at a place is among those up to that place
pub has_here : (ns : List NetId) (k : ℕ) → k < length ns → has_id (take (k + 1) ns) (net_at ns k) ≡ true
has_here ns k lt = has_more ns k (net_at ns k) lt ∙ or_right (has_id (take k ns) (net_at ns k)) (nat_eq (net_at ns k) (net_at ns k)) (eq-eqb (net_at ns k) (net_at ns k) refl)

apart : (xs : List NetId) (x : NetId) (ys : List NetId) → all_differ (xs ++ x ∷ ys) ≡ true → has_id xs x.0 ≡ false
apart [] x ys h = refl
apart (y ∷ xs) x ys h =
    let p = and_parts (not (has_id (xs ++ x ∷ ys) y.0)) (all_differ (xs ++ x ∷ ys)) h in
    let none : has_id (xs ++ x ∷ ys) y.0 ≡ false = not-true (has_id (xs ++ x ∷ ys) y.0) p.0 in
    ⊎_elim
    (λ (e : y.0 ≡ x.0).
    let there : has_id (xs ++ x ∷ ys) y.0 ≡ true = has_id-append xs (x ∷ ys) y.0 ∙ or_right (has_id xs y.0) (nat_eq x.0 y.0 || has_id ys y.0) (or_left (nat_eq x.0 y.0) (has_id ys y.0) (eq-eqb x.0 y.0 (sym e))) in
    absurd (false≢true (sym none ∙ there)))
    (λ (ne : y.0 ≡ x.0 → ⊥). rw (ne_eqb y.0 x.0 ne) (apart xs x ys p.1))
    (cases_eq y.0 x.0)

-- where no net stands twice, the net at a place isn't among those before it
pub new_at : (ns : List NetId) (k : ℕ) → all_differ ns ≡ true → k < length ns → has_id (take k ns) (net_at ns k) ≡ false
new_at ns k once lt =
    let none : NetId = record { 0 = 0 } in
    let cut : ns ≡ take k ns ++ get_or ns k none ∷ drop (suc k) ns = sym (take-append-drop k ns) ∙ ap (λ l. take k ns ++ l) (drop-cons ns k none lt) in
    apart (take k ns) (get_or ns k none) (drop (suc k) ns) (ap all_differ (sym cut) ∙ once)

-- a net among those before a place is another one than that at the place
pub other_at : (ns : List NetId) (k m : ℕ) → all_differ ns ≡ true → k < length ns → has_id (take k ns) m ≡ true → m ≡ net_at ns k → ⊥
other_at ns k m once lt h e = false≢true (sym (new_at ns k once lt) ∙ (ap (has_id (take k ns)) (sym e) ∙ h))

-- what a net reads stands before it
pub reads_before : (nets : List (Option FlatNet)) (order : List NetId) (k m : ℕ) → IsOrder nets order → k < length order → reads_in nets (net_at order k) m ≡ true → has_id (take k order) m ≡ true
reads_before nets order k m o lt r =
    let none : NetId = record { 0 = 0 } in
    o.behind k (get_or order k none) m (slice_get-get_or order k none lt) r

-- ---- nets at the places from one on and below another

pub between_first : (ns : List NetId) (a b m : ℕ) → between ns a b m ≡ true → has_id (take b ns) m ≡ true
between_first ns a b m h = (and_parts (has_id (take b ns) m) (not (has_id (take a ns) m)) h).0

pub between_further : (ns : List NetId) (a b c m : ℕ) → b ≤ c → between ns a b m ≡ true → between ns a c m ≡ true
between_further ns a b c m le h =
    let p = and_parts (has_id (take b ns) m) (not (has_id (take a ns) m)) h in
    and_from (has_id (take c ns) m) (not (has_id (take a ns) m)) (has_further ns b c m le p.0) p.1

pub between_none : (ns : List NetId) (a m : ℕ) → between ns a a m ≡ true → ⊥
between_none ns a m h =
    let p = and_parts (has_id (take a ns) m) (not (has_id (take a ns) m)) h in
    false≢true (sym (not-true (has_id (take a ns) m) p.1) ∙ p.0)

-- but for the net at the last place
pub between_less : (ns : List NetId) (a k m : ℕ) → k < length ns → (m ≡ net_at ns k → ⊥) → between ns a (k + 1) m ≡ true → between ns a k m ≡ true
between_less ns a k m lt ne h =
    let p = and_parts (has_id (take (k + 1) ns) m) (not (has_id (take a ns) m)) h in
    ⊎_elim
    (λ (y : has_id (take k ns) m ≡ true). and_from (has_id (take k ns) m) (not (has_id (take a ns) m)) y p.1)
    (λ (e : nat_eq (net_at ns k) m ≡ true). absurd (ne (sym (eqb-true (net_at ns k) m e))))
    (or_cases (has_id (take k ns) m) (nat_eq (net_at ns k) m) (sym (has_more ns k m lt) ∙ p.0))

split_at : (ns : List NetId) (a b m : ℕ) → a ≤ b → has_id (take b ns) m ≡ (has_id (take a ns) m || has_id (slice_range ns a b) m)
split_at ns a b m le =
    let sum : a + (b - a) ≡ b = omega arith in
    let rest : drop a (take b ns) ≡ slice_range ns a b = ap (λ k. drop a (take k ns)) (sym sum) ∙ drop-take a (b - a) ns in
    ap (λ l. has_id l m) (sym (take-append-drop a (take b ns)))
    ∙ (has_id-append (take a (take b ns)) (drop a (take b ns)) m
    ∙ ((λ i. has_id (take-take a b ns le i) m || has_id (drop a (take b ns)) m) ∙ ap (λ l. has_id (take a ns) m || has_id l m) rest))

pub slice_between : (ns : List NetId) (a b m : ℕ) → a ≤ b → between ns a b m ≡ true → has_id (slice_range ns a b) m ≡ true
slice_between ns a b m le h =
    let p = and_parts (has_id (take b ns) m) (not (has_id (take a ns) m)) h in
    ⊎_elim
    (λ (y : has_id (take a ns) m ≡ true). absurd (false≢true (sym (not-true (has_id (take a ns) m) p.1) ∙ y)))
    (λ (y : has_id (slice_range ns a b) m ≡ true). y)
    (or_cases (has_id (take a ns) m) (has_id (slice_range ns a b) m) (sym (split_at ns a b m le) ∙ p.0))

pub between_slice : (ns : List NetId) (a b m : ℕ) → a ≤ b → all_differ ns ≡ true → has_id (slice_range ns a b) m ≡ true → between ns a b m ≡ true
between_slice ns a b m le once h =
    let p = id_at (drop a ns) m (has_first (drop a ns) (b - a) m h) in
    let none : NetId = record { 0 = 0 } in
    let here : net_at ns (a + p.0) ≡ m = ap (λ (n : NetId). n.0) (sym (get_or-drop a ns p.0 none)) ∙ p.2 in
    let lt : a + p.0 < length ns = omega (arith, p.1, length-drop a ns) in
    and_from (has_id (take b ns) m) (not (has_id (take a ns) m))
    (split_at ns a b m le ∙ or_right (has_id (take a ns) m) (has_id (slice_range ns a b) m) h)
    (⊎_elim
    (λ (y : has_id (take a ns) m ≡ true). absurd (other_at ns (a + p.0) m once lt (has_further ns a (a + p.0) m (omega arith) y) (sym here)))
    (λ (y : has_id (take a ns) m ≡ false). ap not y)
    (cases_Bool (has_id (take a ns) m)))

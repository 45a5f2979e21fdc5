-- The least of the numbers of which something holds, and the least latches above nets.
use Rattle.std.proofs.Common.{◌≡◌, ◌⊎◌, ℕ, ◌+◌, ◌<◌, ◌≤◌, Bool, true, false, ◌||◌, List, [], ◌∷◌, length, get_or, take, set, Option, Some, None, All, refl}
use Rattle.std.proofs.Common.{sym, ◌∙◌, ap, subst, arith, ⊎_elim, inl, inr}
use Rattle.std.specs.Prelude.{nat_eq, nat_le, if◌then◌else◌}
use Rattle.std.proofs.lemmas.Bool.{false≢true, cases_eq, eq-eqb, eqb-true, leb-true, leb-false, ltb-true, or_cases, or_left, or_right}
use Rattle.std.proofs.lemmas.List.{length-set, get_or-set_same, get_or-set_other}
use Rattle.std.proofs.lemmas.Option.{slice_get_read}
use Rattle.mv_base.specs.declared.number.NetId.{NetId}
use Rattle.mv_graph.specs.Nets.{has_id, row, AllBelow}
use Rattle.mv_graph.specs.Above.{GoesOn, IsAbove, reads_by}
use Rattle.mv_graph.specs.Orders.{IsSortedBy}
use Rattle.mv_graph.proofs.Nets.{has_id-at, has_id-more}
use Rattle.mv_graph.proofs.Paths.{above_first}
use Rattle.mv_acyclic.specs.Alone.{IsBetween, IsFound, IsFoundAt, IsLeast, IsLeastAbove, lesser_of, least_from}

-- what holds of the same numbers has the same least
pub IsLeast-same : (P Q : ℕ → Type 0) (o : Option NetId) → ((k : ℕ) → P k → Q k) → ((k : ℕ) → Q k → P k) → IsLeast P o → IsLeast Q o
IsLeast-same P Q None to back l = record { some = tt; least = tt; none = λ k q. l.none k (back k q) }
IsLeast-same P Q (Some n) to back l = record { some = to n.0 l.some; least = λ k q. l.least k (back k q); none = tt }

-- the least of two
lesser-least : (P Q : ℕ → Type 0) (a b : Option NetId) → IsLeast P a → IsLeast Q b → IsLeast (λ k. P k ⊎ Q k) (lesser_of a b)
lesser-least P Q None b l m =
    IsLeast-same Q (λ k. P k ⊎ Q k) b (λ k q. inr q) (λ k h. ⊎_elim (λ (p : P k). absurd (l.none k p)) (λ (q : Q k). q) h) m
lesser-least P Q (Some a) None l m =
    IsLeast-same P (λ k. P k ⊎ Q k) (Some a) (λ k p. inl p) (λ k h. ⊎_elim (λ (p : P k). p) (λ (q : Q k). absurd (m.none k q)) h) l
lesser-least P Q (Some a) (Some b) l m = split (nat_le a.0 b.0) refl
  where
    split : (t : Bool) → nat_le a.0 b.0 ≡ t → IsLeast (λ k. P k ⊎ Q k) (Some (if t then a else b))
    split true e = record {
      some = inl l.some;
      least = λ k h.
          let s : a.0 ≤ b.0 = leb-true a.0 b.0 e in
          ⊎_elim (λ (p : P k). l.least k p) (λ (q : Q k). let r : b.0 ≤ k = m.least k q in let g : a.0 ≤ k = omega arith in g) h;
      none = tt;
    }
    split false e = record {
      some = inr m.some;
      least = λ k h.
          let s : b.0 < a.0 = leb-false a.0 b.0 e in
          ⊎_elim (λ (p : P k). let r : a.0 ≤ k = l.least k p in let g : b.0 ≤ k = omega arith in g) (λ (q : Q k). m.least k q) h;
      none = tt;
    }

-- at the first of these nets, or at another
found_first : (Q : ℕ → ℕ → Type 0) (n : NetId) (ns : List NetId) (k : ℕ) → Q n.0 k → IsFoundAt Q (n ∷ ns) k
found_first Q n ns k q = record { net = n.0; listed = or_left _ _ (eq-eqb n.0 n.0 refl); found = q }

found_later : (Q : ℕ → ℕ → Type 0) (n : NetId) (ns : List NetId) (k : ℕ) → IsFoundAt Q ns k → IsFoundAt Q (n ∷ ns) k
found_later Q n ns k f = record { net = f.net; listed = or_right (nat_eq n.0 f.net) _ f.listed; found = f.found }

found_either : (Q : ℕ → ℕ → Type 0) (n : NetId) (ns : List NetId) (k : ℕ) → IsFoundAt Q (n ∷ ns) k → (Q n.0 k) ⊎ IsFoundAt Q ns k
found_either Q n ns k f =
    ⊎_elim (λ (e : nat_eq n.0 f.net ≡ true). inl (subst (λ j. Q j k) (sym (eqb-true n.0 f.net e)) f.found))
    (λ (r : has_id ns f.net ≡ true). inr (record { net = f.net; listed = r; found = f.found }))
    (or_cases (nat_eq n.0 f.net) (has_id ns f.net) f.listed)

-- the least of a number and of those that stand at nets
pub least_from-least : (P : ℕ → Type 0) (Q : ℕ → ℕ → Type 0) (above : List (Option NetId)) (o : Option NetId) (ns : List NetId) → IsLeast P o
    → ((n : ℕ) → has_id ns n ≡ true → IsLeast (Q n) (get_or above n None))
    → IsLeast (λ k. P k ⊎ IsFoundAt Q ns k) (least_from above o ns)
least_from-least P Q above o [] l each =
    IsLeast-same P (λ k. P k ⊎ IsFoundAt Q [] k) o (λ k p. inl p) (λ k h. ⊎_elim (λ (p : P k). p) (λ (f : IsFoundAt Q [] k). absurd (false≢true f.listed)) h) l
least_from-least P Q above o (n ∷ ns) l each =
    let here = lesser-least P (Q n.0) o (get_or above n.0 None) l (each n.0 (or_left _ _ (eq-eqb n.0 n.0 refl))) in
    let rest = least_from-least (λ k. P k ⊎ Q n.0 k) Q above (lesser_of o (get_or above n.0 None)) ns here (λ m h. each m (or_right (nat_eq n.0 m) _ h)) in
    IsLeast-same (λ k. (P k ⊎ Q n.0 k) ⊎ IsFoundAt Q ns k) (λ k. P k ⊎ IsFoundAt Q (n ∷ ns) k) _
    (λ k h. ⊎_elim (λ (b : P k ⊎ Q n.0 k). ⊎_elim (λ (p : P k). inl p) (λ (q : Q n.0 k). inr (found_first Q n ns k q)) b)
    (λ (f : IsFoundAt Q ns k). inr (found_later Q n ns k f)) h)
    (λ k h. ⊎_elim (λ (p : P k). inl (inl p))
    (λ (f : IsFoundAt Q (n ∷ ns) k). ⊎_elim (λ (q : Q n.0 k). inl (inr q)) (λ (g : IsFoundAt Q ns k). inr g) (found_either Q n ns k f)) h)
    rest

-- ---- the least number above a net

abbrev IsOwn : ℕ → ℕ → ℕ → ℕ → Type 0
IsOwn low high n k = IsBetween low high k × (k ≡ n)

abbrev IsAtColumn : List (List NetId) → ℕ → ℕ → ℕ → ℕ → Type 0
IsAtColumn columns low high n k = IsFoundAt (IsFound columns low high) (row columns n) k

-- a net above n is one of its columns, or above one
at_column : (columns : List (List NetId)) (low high n k : ℕ) → IsBetween low high k → (path : List ℕ) → GoesOn (reads_by columns) k n path
    → IsAtColumn columns low high n k
at_column columns low high n k w [] g = record { net = k; listed = g; found = record { within = w; above = inl refl } }
at_column columns low high n k w (j ∷ path) g = record { net = j; listed = g.0; found = record { within = w; above = inr (record { path = path; goes = g.1 }) } }

to_parts : (columns : List (List NetId)) (low high n k : ℕ) → IsFound columns low high n k → IsOwn low high n k ⊎ IsAtColumn columns low high n k
to_parts columns low high n k f =
    ⊎_elim (λ (e : k ≡ n). inl (f.within, e)) (λ (a : IsAbove (reads_by columns) k n). inr (at_column columns low high n k f.within a.path a.goes)) f.above

from_column : (columns : List (List NetId)) (low high n k : ℕ) → IsAtColumn columns low high n k → IsFound columns low high n k
from_column columns low high n k f = record {
  within = f.found.within;
  above =
      ⊎_elim (λ (e : k ≡ f.net). inr (record { path = []; goes = ap (has_id (row columns n)) e ∙ f.listed }))
      (λ (a : IsAbove (reads_by columns) k f.net). inr (above_first (reads_by columns) n f.net k f.listed a)) f.found.above;
}

-- it is the net's own, or the least of those of its columns
pub least_next : (columns : List (List NetId)) (low high n : ℕ) (above : List (Option NetId)) (own : Option NetId)
    → IsLeast (λ k. IsBetween low high k × (k ≡ n)) own
    → ((m : ℕ) → has_id (row columns n) m ≡ true → IsLeastAbove columns low high m (get_or above m None))
    → IsLeastAbove columns low high n (least_from above own (row columns n))
least_next columns low high n above own o each =
    IsLeast-same (λ k. IsOwn low high n k ⊎ IsAtColumn columns low high n k) (IsFound columns low high n) _
    (λ k h. ⊎_elim (λ (p : IsOwn low high n k). record { within = p.0; above = inl p.1 })
    (λ (f : IsAtColumn columns low high n k). from_column columns low high n k f) h)
    (to_parts columns low high n)
    (least_from-least (IsOwn low high n) (IsFound columns low high) above own (row columns n) o each)

-- ---- net by net

-- it stands there for each of the first nets of the order
pub record AreDone (columns : List (List NetId)) (low high : ℕ) (order : List NetId) (count : ℕ) (above : List (Option NetId)) : Type 0 where
  pub long : length above ≡ length columns
  pub done : (n : ℕ) → has_id (take count order) n ≡ true → IsLeastAbove columns low high n (get_or above n None)

-- each place of the order has a net
pub sorted_below : (columns : List (List NetId)) (order : List NetId) (i : ℕ) (d : NetId) → IsSortedBy columns order → i < length order
    → (get_or order i d).0 < length columns
sorted_below columns order i d s lt =
    let n = (get_or order i d).0 in
    ltb-true n (length columns) (sym (s.members n) ∙ has_id-at order i d lt)

-- the columns of a net have a place each
pub small_columns : (columns : List (List NetId)) (n size : ℕ) (ns : List NetId) → AllBelow columns → n < length columns → size ≡ length columns
    → ns ≡ get_or columns n ns → All (λ (c : NetId). c.0 < size) ns
small_columns columns n size ns below lt long is =
    let P : List NetId → Type 0 = λ xs. All (λ (c : NetId). c.0 < size) xs in
    subst P (sym is) (λ k d low. let l = below n ns lt k d low in omega arith)

-- the next net, behind its columns
pub least_behind : (columns : List (List NetId)) (low high : ℕ) (order : List NetId) (i : ℕ) (net : NetId) (above : List (Option NetId)) (own : Option NetId)
    → IsSortedBy columns order → i < length order → net ≡ get_or order i net
    → AreDone columns low high order i above → IsLeast (λ k. IsBetween low high k × (k ≡ net.0)) own
    → IsLeastAbove columns low high net.0 (least_from above own (row columns net.0))
least_behind columns low high order i net above own s lt is a o =
    least_next columns low high net.0 above own o (λ m h. a.done m (s.behind i net m (slice_get_read order (length order) i net refl lt is) h))

-- it is put there for one net more
pub done_next : (columns : List (List NetId)) (low high : ℕ) (order : List NetId) (i : ℕ) (net : NetId) (above : List (Option NetId)) (least : Option NetId)
    → i < length order → net ≡ get_or order i net → net.0 < length columns
    → AreDone columns low high order i above → IsLeastAbove columns low high net.0 least → AreDone columns low high order (i + 1) (set above net.0 least)
done_next columns low high order i net above least lt is low_net a l = record {
  long = length-set above net.0 least ∙ a.long;
  done = λ n h.
      ⊎_elim (λ (e : n ≡ net.0). here n e)
      (λ (ne : n ≡ net.0 → ⊥).
      subst (IsLeastAbove columns low high n) (sym (get_or-set_other above net.0 n least None ne))
      (a.done n (other n ne (sym (has_id-more order i net net n lt is) ∙ h))))
      (cases_eq n net.0);
}
  where
    here : (n : ℕ) → n ≡ net.0 → IsLeastAbove columns low high n (get_or (set above net.0 least) n None)
    here n e =
        let P : ℕ → Type 0 = λ j. IsLeastAbove columns low high j (get_or (set above net.0 least) j None) in
        let inside : net.0 < length above = (let s = a.long in omega arith) in
        subst P (sym e) (subst (IsLeastAbove columns low high net.0) (sym (get_or-set_same above net.0 least None inside)) l)

    other : (n : ℕ) → (n ≡ net.0 → ⊥) → (has_id (take i order) n || nat_eq net.0 n) ≡ true → has_id (take i order) n ≡ true
    other n ne h =
        ⊎_elim (λ (y : has_id (take i order) n ≡ true). y) (λ (e : nat_eq net.0 n ≡ true). absurd (ne (sym (eqb-true net.0 n e))))
        (or_cases (has_id (take i order) n) (nat_eq net.0 n) h)

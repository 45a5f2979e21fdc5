-- Labels by an order: each net has that of its place.
use Rattle.std.proofs.Common.{◌≡◌, ◌∙◌, ℕ, ◌+◌, ◌*◌, ◌%◌, ◌^◌, ◌<◌, ◌≤◌, true, nat_eq, List, length, get_or, set, take, Some, sym, ap, subst, arith, ⊎_elim, eqb-true, min}
use Rattle.std.specs.Prelude.{slice_get}
use Rattle.std.proofs.lemmas.Bool.{cases_lt, ltb-true, lt-ltb}
use Rattle.std.proofs.lemmas.List.{get_or-set_same, get_or-set_other, get_or-take, get_or_default, length-take}
use Rattle.std.proofs.lemmas.Option.{slice_get_within, get_or_from_slice_get}
use Rattle.mv_base.specs.declared.limits.TheConstants.{MAX_NETS}
use Rattle.mv_base.specs.declared.number.NetId.{NetId}
use Rattle.mv_base.proofs.Lists.{found}
use Rattle.mv_graph.specs.Nets.{all_differ, has_id, row}
use Rattle.mv_graph.specs.Orders.{IsSortedBy}
use Rattle.mv_graph.specs.Sorting.{net_at}
use Rattle.mv_graph.proofs.Columns.{id_at}
use Rattle.mv_graph.proofs.Nets.{has_id-at}
use Rattle.mv_dag.specs.Ordered.{at, IsOrdered}
use Rattle.mv_dag.proofs.Reaching.{reader_below}
use Rattle.mv_dag.proofs.Differing.{few_nets, places_differ}

-- a net of the order is one of the graph
pub order_below : (fanins : List (List NetId)) (order : List NetId) (n : ℕ) → IsSortedBy fanins order → has_id order n ≡ true → n < length fanins
order_below fanins order n s h = ltb-true n (length fanins) (sym (s.members n) ∙ h)

pub order_short : (fanins : List (List NetId)) (order : List NetId) → IsSortedBy fanins order → length order ≤ length fanins
order_short fanins order s = few_nets order (length fanins) s.once (λ n h. order_below fanins order n s h)

-- the net at a place of the order is one of the graph
pub place_below : (fanins : List (List NetId)) (order : List NetId) (place : ℕ) (x d : NetId) → IsSortedBy fanins order → place < length order → x ≡ get_or order place d → x.0 < length fanins
place_below fanins order place x d s low is =
    order_below fanins order x.0 s (ap (λ (y : NetId). has_id order y.0) is ∙ has_id-at order place d low)

-- the nets before a place of the order have the labels of theirs
abbrev pub AreLabelled : List NetId → List ℕ → ℕ → Type 0
AreLabelled order labels place = (k : ℕ) → k < place → at labels (net_at order k) ≡ k * 2 ^ 32 + net_at order k

pub labelled_more : (order : List NetId) (labels new : List ℕ) (place : ℕ) (x d : NetId) → all_differ order ≡ true → place < length order → x ≡ get_or order place d → x.0 < length labels → new ≡ set labels x.0 (place * 2 ^ 32 + x.0) → AreLabelled order labels place → AreLabelled order new (place + 1)
labelled_more order labels new place x d once low is inside e before k lt =
    ap (λ ls. at ls (net_at order k)) e ∙ ⊎_elim earlier here (cases_lt k place)
  where
    number : x.0 ≡ net_at order place
    number = ap (λ (y : NetId). y.0) (is ∙ get_or_default order place d (record { 0 = 0 }) low)

    earlier : k < place → at (set labels x.0 (place * 2 ^ 32 + x.0)) (net_at order k) ≡ k * 2 ^ 32 + net_at order k
    earlier l =
        get_or-set_other labels x.0 (net_at order k) (place * 2 ^ 32 + x.0) 0 (λ same. places_differ order k place (record { 0 = 0 }) once l low (sym number ∙ sym same)) ∙ before k l

    here : place ≤ k → at (set labels x.0 (place * 2 ^ 32 + x.0)) (net_at order k) ≡ k * 2 ^ 32 + net_at order k
    here r =
        let p : place ≡ k = omega arith in
        let P : ℕ → Type 0 = λ j. at (set labels x.0 (place * 2 ^ 32 + x.0)) (net_at order j) ≡ j * 2 ^ 32 + net_at order j in
        subst P p (ap (at (set labels x.0 (place * 2 ^ 32 + x.0))) (sym number) ∙ (get_or-set_same labels x.0 (place * 2 ^ 32 + x.0) 0 inside ∙ ap (λ n. place * 2 ^ 32 + n) number))

-- ---- the labels of all nets

module _ (fanins : List (List NetId)) (order : List NetId) (labels : List ℕ) (s : IsSortedBy fanins order) (few : length fanins ≤ MAX_NETS) (long : length labels ≡ length fanins) (all : AreLabelled order labels (length order)) where
  record HasPlace (n : ℕ) : Type 0 where
    place : ℕ
    net : NetId
    there : slice_get order place ≡ Some net
    is : net.0 ≡ n
    label : at labels n ≡ place * 2 ^ 32 + n
    small : n < 2 ^ 32

  label_at : (k n : ℕ) → k < length order → net_at order k ≡ n → at labels n ≡ k * 2 ^ 32 + n
  label_at k n low is = let P : ℕ → Type 0 = λ m. at labels m ≡ k * 2 ^ 32 + m in subst P is (all k low)

  has_place : (n : ℕ) → n < length fanins → HasPlace n
  has_place n low =
      let f = found (λ (c : NetId). nat_eq c.0 n) order (s.members n ∙ lt-ltb n (length fanins) low) in
      let inside = slice_get_within order f.place f.item f.at in
      let is : f.item.0 ≡ n = eqb-true f.item.0 n f.passes in
      record {
        place = f.place;
        net = f.item;
        there = f.at;
        is = is;
        label = label_at f.place n inside (ap (λ (c : NetId). c.0) (get_or_from_slice_get order f.place f.item (record { 0 = 0 }) f.at) ∙ is);
        small = omega arith;
      }

  id_of : (n : ℕ) → n < length fanins → at labels n % 2 ^ 32 ≡ n
  id_of n low =
      let p = has_place n low in
      let label : at labels n ≡ p.place * 2 ^ 32 + n = p.label in
      let small : n < 2 ^ 32 = p.small in
      omega arith

  labels_fall : (n m : ℕ) → has_id (row fanins n) m ≡ true → at labels m < at labels n
  labels_fall n m reads =
      let p = has_place n (reader_below fanins n m reads) in
      let before = id_at (take p.place order) m (s.behind p.place p.net m p.there (ap (λ k. has_id (row fanins k) m) p.is ∙ reads)) in
      let k : ℕ = before.0 in
      let inside : k < length (take p.place order) = before.1 in
      let cut : length (take p.place order) ≡ min p.place (length order) = length-take p.place order in
      let early : k < p.place = omega arith in
      let low : k < length order = omega arith in
      let none : NetId = record { 0 = 0 } in
      let is : net_at order k ≡ m = ap (λ (c : NetId). c.0) (sym (get_or-take p.place order k none early)) ∙ before.2 in
      let below : m < length fanins = order_below fanins order m s (ap (has_id order) (sym is) ∙ has_id-at order k none low) in
      let label : at labels m ≡ k * 2 ^ 32 + m = label_at k m low is in
      let other : at labels n ≡ p.place * 2 ^ 32 + n = p.label in
      omega arith

  pub labelled_all : IsOrdered fanins labels
  labelled_all = record {
    long = long;
    falls = labels_fall;
    low = λ n low. let id = id_of n (omega arith) in omega arith;
    differ = λ n m l k same. let i = id_of n (omega arith) in let j = id_of m (omega arith) in omega arith;
  }

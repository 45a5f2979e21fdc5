-- Nets sorted by their labels.
use Rattle.std.proofs.Common.{◌≡◌, ◌∙◌, ℕ, ◌<◌, ◌≤◌, true, nat_eq, List, length, get_or, take, Some, sym, ap, arith, ⊎_elim, IsPermutation}
use Rattle.std.specs.Prelude.{slice_get}
use Rattle.std.specs.List.Sorted.{IsNonDecreasingBy}
use Rattle.std.proofs.lemmas.Bool.{cases_lt, eqb-true}
use Rattle.std.proofs.lemmas.List.Sorted.{list_any-IsPermutation}
use Rattle.std.proofs.lemmas.Option.{slice_get_within, get_or_from_slice_get}
use Rattle.mv_base.specs.declared.number.NetId.{NetId}
use Rattle.mv_base.proofs.Lists.{found}
use Rattle.mv_graph.specs.Nets.{all_differ, has_id, row}
use Rattle.mv_dag.specs.Ordered.{at, IsOrdered, IsOrderOf}
use Rattle.mv_dag.proofs.Differing.{all_differ-IsPermutation, in_front}

pub sorted_order : (fanins : List (List NetId)) (labels : List ℕ) (nets order : List NetId) → IsOrdered fanins labels → all_differ nets ≡ true → IsPermutation nets order → IsNonDecreasingBy (λ (n : NetId). at labels n.0) order → IsOrderOf fanins nets order
sorted_order fanins labels nets order o once p up = record {
  members = members;
  once = all_differ-IsPermutation nets order p once;
  behind = behind;
}
  where
    members : (n : ℕ) → has_id order n ≡ has_id nets n
    members n = sym (list_any-IsPermutation (λ (m : NetId). nat_eq m.0 n) nets order p)

    behind : (place : ℕ) (n : NetId) (m : ℕ) → slice_get order place ≡ Some n → has_id (row fanins n.0) m ≡ true → has_id nets m ≡ true → has_id (take place order) m ≡ true
    behind place n m there reads among =
        let none : NetId = record { 0 = 0 } in
        let f = found (λ (x : NetId). nat_eq x.0 m) order (members m ∙ among) in
        let k_in : f.place < length order = slice_get_within order f.place f.item f.at in
        let n_is : get_or order place none ≡ n = get_or_from_slice_get order place n none there in
        let m_is : (get_or order f.place none).0 ≡ m = ap (λ (x : NetId). x.0) (get_or_from_slice_get order f.place f.item none f.at) ∙ eqb-true f.item.0 m f.passes in
        let falls : at labels m < at labels n.0 = o.falls n.0 m reads in
        let before : f.place < place =
        ⊎_elim (λ (l : f.place < place). l)
        (λ (r : place ≤ f.place).
        let late : at labels (get_or order place none).0 ≤ at labels (get_or order f.place none).0 = up place f.place none r k_in in
        let same : at labels n.0 ≤ at labels m = rw (n_is, m_is) at late in
        absurd (omega arith))
        (cases_lt f.place place) in
        ap (has_id (take place order)) (sym m_is) ∙ in_front order place f.place none before k_in

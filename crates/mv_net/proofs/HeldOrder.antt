-- The order of the held nets, and which of them are above others, as the graph tells it.
use Rattle.std.proofs.Common.{◌≡◌, ◌∙◌, ℕ, ◌<◌, Option, Bool, true, false, not, List, [], ◌∷◌, Result, Ok, Err, IfOk, MatchBool, is_some, refl, sym, ap, ⊎_elim, arith}
use Rattle.std.proofs.lemmas.Bool.{cases_Bool, and_from}
use Rattle.mv_base.specs.declared.number.NetId.{NetId}
use Rattle.mv_graph.specs.Nets.{all_differ, has_id, ids_ascend, IsAscending}
use Rattle.mv_graph.specs.Above.{IsAbove, reads_by}
use Rattle.mv_graph.proofs.Nets.{above_first, ascend_tail}
use Rattle.mv_graph.proofs.Paths.{above_mapped}
use Rattle.mv_dag.specs.Ordered.{IsOrderOf}
use Rattle.mv_net.specs.declared.parts.FlatNet.{FlatNet}
use Rattle.mv_net.specs.declared.parts.NetParts.{NetParts}
use Rattle.mv_net.specs.Nets.{reads_in}
use Rattle.mv_net.specs.Formed.{WellFormed}
use Rattle.mv_net.specs.Index.{is_held, AreFanins}
use Rattle.mv_net.specs.Order.{IsOrder}
use Rattle.mv_net.proofs.Known.{reads_readable}

-- ascending numbers differ
pub ascending_differ : (ns : List NetId) → ids_ascend ns ≡ true → all_differ ns ≡ true
ascending_differ [] up = refl
ascending_differ (n ∷ ns) up =
    and_from (not (has_id ns n.0)) (all_differ ns)
    (ap not (⊎_elim
    (λ (y : has_id ns n.0 ≡ true). let bad : n.0 < n.0 = above_first n ns n.0 up y in absurd (omega arith))
    (λ (f : has_id ns n.0 ≡ false). f)
    (cases_Bool (has_id ns n.0))))
    (ascending_differ ns (ascend_tail n ns up))

-- the held nets in an order of the graph
pub held_order : (net : NetParts) (graph : List (List NetId)) (nets order : List NetId) → WellFormed net → AreFanins net.nets graph → IsAscending (is_held net.nets) nets → IsOrderOf graph nets order → IsOrder net.nets order
held_order net graph nets order formed f held o = record {
  members = λ n. o.members n ∙ held.members n;
  once = o.once;
  behind = λ place n m at reads. o.behind place n m at ((f.each n.0).members m ∙ reads) (held.members m ∙ ap is_some (reads_readable net n.0 m formed reads).held);
}

-- what is above another in the graph is so in the network, and the other way round
pub above_told : {E : Type 0} (result : Result Bool E) (nets : List (Option FlatNet)) (graph : List (List NetId)) (above n : ℕ) → AreFanins nets graph
    → IfOk result (λ yes. MatchBool yes (IsAbove (reads_by graph) above n) (IsAbove (reads_by graph) above n → ⊥))
    → IfOk result (λ yes. MatchBool yes (IsAbove (reads_in nets) above n) (IsAbove (reads_in nets) above n → ⊥))
above_told (Ok true) nets graph above n f is = above_mapped (reads_by graph) (reads_in nets) (λ m. m) (λ k m h. sym ((f.each k).members m) ∙ h) above n is
above_told (Ok false) nets graph above n f none = λ is. none (above_mapped (reads_in nets) (reads_by graph) (λ m. m) (λ k m h. (f.each k).members m ∙ h) above n is)
above_told (Err e) nets graph above n f told = told

-- What `put_behind` leaves: labels that are good for the old fanins and for the new ones, and entries that tell how to put
-- them back.
use Rattle.std.proofs.Common.{◌≡◌, ℕ, ◌<◌, ◌≤◌, true, List, [], ◌∷◌, length, set, refl, arith}
use Rattle.std.proofs.lemmas.List.Elements.{All-nil}
use Rattle.mv_base.specs.declared.number.NetId.{NetId}
use Rattle.mv_graph.specs.Nets.{has_id}
use Rattle.mv_dag.specs.declared.way.Way.TheVariants.{Up, Down}
use Rattle.mv_dag.specs.declared.moves.Entry.{Entry}
use Rattle.mv_dag.specs.Ordered.{at, IsOrdered}
use Rattle.mv_dag.specs.Searches.{leads_to, IsReach}
use Rattle.mv_dag.specs.Moves.{IsEntry, WasAt, in_either, written, turned_by, AreEntries}
use Rattle.mv_dag.proofs.Moved.{IsFree, none_both, same_label, are_here, still_ordered, new_lower, ordered_set}
use Rattle.mv_dag.proofs.Planned.{are_moved, were_at}
use Rattle.mv_dag.proofs.Sorted.{AreDistinct}

-- labels that became others, good for both
pub record AreBehind (fanins : List (List NetId)) (labels after : List ℕ) (n : ℕ) (new : List NetId) (entries : List Entry) : Type 0 where
  pub ok : IsOrdered (set fanins n new) after
  pub still : IsOrdered fanins after
  pub was : WasAt labels after entries

-- nothing has to move
pub stay_behind : (fanins : List (List NetId)) (labels : List ℕ) (n : ℕ) (new : List NetId) (high : ℕ) (entries : List Entry) → entries ≡ [] → IsOrdered fanins labels → n < length fanins
    → high < at labels n → ((m : ℕ) → has_id new m ≡ true → at labels m ≤ high) → AreBehind fanins labels labels n new entries
stay_behind fanins labels n new high entries none o l lower highest = record {
  ok = ordered_set fanins labels n new l (λ m h. let k = highest m h in omega arith) o;
  still = o;
  was = record { long = refl; had = rw none (All-nil (IsEntry labels)); others = λ x f. refl };
}

module _ (fanins : List (List NetId)) (labels : List ℕ) (new above below : List NetId) (n : NetId) (high : ℕ) (entries : List Entry)
    (o : IsOrdered fanins labels) (free : IsFree fanins new n.0)
    (up : IsReach (leads_to Up fanins) labels new (at labels n.0) high above) (down : IsReach (leads_to Down fanins) labels (n ∷ []) (at labels n.0) high below)
    (a : AreEntries labels above below entries) where
  small : (x : ℕ) → in_either above below x ≡ true → x < length labels
  small = (are_here (leads_to Up fanins) (leads_to Down fanins) labels new (n ∷ []) above below (at labels n.0) high up down).here

  distinct : AreDistinct labels above below
  distinct x y h k e = same_label fanins labels o x y (small x h) (small y k) e

  none : (x : ℕ) → has_id above x ≡ true → has_id below x ≡ true → ⊥
  none = none_both fanins labels new above below n (at labels n.0) high free up down

  pub are_behind : n.0 < length fanins → at labels n.0 ≤ high → ((m : ℕ) → has_id new m ≡ true → at labels m ≤ high) → AreBehind fanins labels (written labels (turned_by above entries) entries) n.0 new entries
  are_behind l wide highest =
      let m = are_moved labels above below entries distinct small none a in
      let after = written labels (turned_by above entries) entries in
      let still = still_ordered fanins labels after new above below n high o free up down m in
      record {
        ok = ordered_set fanins after n.0 new l (new_lower fanins labels after new above below n high o free up down m wide highest) still;
        still = still;
        was = were_at labels above below entries distinct small none a;
      }

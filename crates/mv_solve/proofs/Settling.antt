-- What stands behind a net of an order doesn't touch what was found of it; and what a value is refused by.
use Rattle.std.proofs.Common.{◌≡◌, ◌∙◌, ℕ, ◌+◌, ◌<◌, ◌≤◌, Bool, true, false, ◌&&◌, ◌||◌, not, List, length, set, take, Option, Some, None, IsTrue, is_some, refl, sym, ap, subst, ⊎_elim, eqb-true, arith, get_or-set_same, get_or-set_other}
use Rattle.std.specs.Prelude.{slice_index}
use Rattle.std.proofs.lemmas.Bool.{cases_Bool, cases_eq, and_from, and_parts, or_cases, false≢true, not-true}
use Rattle.mv_base.specs.declared.number.NetId.{NetId}
use Rattle.mv_graph.specs.Nets.{has_id, all_differ}
use Rattle.mv_graph.specs.Sorting.{net_at}
use Rattle.mv_graph.proofs.Columns.{id_at}
use Rattle.mv_net.specs.declared.parts.FlatNet.{FlatNet}
use Rattle.mv_net.specs.Nets.{slot, reads_in}
use Rattle.mv_net.specs.Index.{is_held}
use Rattle.mv_net.specs.Allowed.{net_allows}
use Rattle.mv_net.proofs.Local.{net_allows-local}
use Rattle.mv_solve.specs.declared.asked.Asked.{Asked}
use Rattle.mv_solve.specs.declared.asked.Asked.TheVariants.{Anything, Only, Nothing}
use Rattle.mv_solve.specs.Asked.{takes, asked_of, may_have, IsSolution}
use Rattle.mv_solve.specs.Known.{is_only}
use Rattle.mv_solve.specs.Marks.{between}
use Rattle.mv_solve.specs.Way.{AreAlike, AreGiven, IsWay, IsRefuted, rests_on, IsSettled, AreSettled}
use Rattle.mv_solve.proofs.Orders.{has_further, has_here, other_at, between_first, between_further}

-- ---- assignments that are alike

pub alike_less : (s t : ℕ → Bool) (to at : ℕ → ℕ) → ((m : ℕ) → s m ≡ true → t m ≡ true) → AreAlike t to at → AreAlike s to at
alike_less s t to at h a = record { same = λ m e. a.same m (h m e) }

pub alike_via : (test : ℕ → Bool) (to at now : ℕ → ℕ) → AreAlike test at now → AreAlike test to at → AreAlike test to now
alike_via test to at now b a = record { same = λ m e. a.same m e ∙ b.same m e }

-- whether a net may have a value depends on those that it reads
pub may-local : (nets : List (Option FlatNet)) (asked : Asked) (n v : ℕ) (to at : ℕ → ℕ) → AreAlike (reads_in nets n) to at → may_have nets asked to n v ≡ may_have nets asked at n v
may-local nets asked n v to at a = ap (λ b. b && takes asked v) (net_allows-local (slot nets n) to at v a.same)

-- each net of a solution may have the value that it has
pub solution_may : (nets : List (Option FlatNet)) (order : List NetId) (asked : List Asked) (to : ℕ → ℕ) (n : ℕ) → IsSolution nets order asked to → has_id order n ≡ true → may_have nets (asked_of asked n) to n (to n) ≡ true
solution_may nets order asked to n s h = and_from (net_allows (slot nets n) to (to n)) (takes (asked_of asked n) (to n)) (s.agrees.each n) (s.asks.each n h)

-- what a net reads and has one asked value is the same in all that have what is asked
only_same : (a : Asked) (u v : ℕ) → is_only a ≡ true → takes a u ≡ true → takes a v ≡ true → u ≡ v
only_same Anything u v e s t = absurd (false≢true e)
only_same (Only w) u v e s t = eqb-true u w.0 s ∙ sym (eqb-true v w.0 t)
only_same Nothing u v e s t = absurd (false≢true e)

reads_alike : (nets : List (Option FlatNet)) (asked : List Asked) (n : ℕ) (test : ℕ → Bool) (to at : ℕ → ℕ) → ((m : ℕ) → reads_in nets n m ≡ true → is_only (asked_of asked m) ≡ false → test m ≡ true) → ((m : ℕ) → reads_in nets n m ≡ true → is_only (asked_of asked m) ≡ true → to m ≡ at m) → AreAlike test to at → AreAlike (reads_in nets n) to at
reads_alike nets asked n test to at h given a = record {
  same = λ m r.
      ⊎_elim
      (λ (e : is_only (asked_of asked m) ≡ true). given m r e)
      (λ (e : is_only (asked_of asked m) ≡ false). a.same m (h m r e))
      (cases_Bool (is_only (asked_of asked m)));
}

-- a value that the net may not have is refuted by what it reads
pub refuted_now : (nets : List (Option FlatNet)) (order : List NetId) (starts : List ℕ) (asked : List Asked) (test : ℕ → Bool) (at : ℕ → ℕ) (n u : ℕ) → IsWay nets order starts asked → AreGiven asked at → has_id order n ≡ true → ((m : ℕ) → reads_in nets n m ≡ true → is_only (asked_of asked m) ≡ false → test m ≡ true) → may_have nets (asked_of asked n) at n u ≡ false → IsRefuted nets order asked test at n u
refuted_now nets order starts asked test at n u o given h reads may_not = record {
  none = λ to s a is.
      let P : ℕ → Type 0 = λ k. may_have nets (asked_of asked n) to n k ≡ true in
      let yes_there = subst P is (solution_may nets order asked to n s h) in
      let alike : AreAlike (reads_in nets n) to at = reads_alike nets asked n test to at reads (λ m r e. only_same (asked_of asked m) (to m) (at m) e (s.asks.each m (o.members m ∙ o.held n m r)) (given.each m e)) a in
      false≢true (sym may_not ∙ (sym (may-local nets (asked_of asked n) n u to at alike) ∙ yes_there));
}

-- a value that is refuted by fewer nets is so by more, also where these have the same values elsewhere
pub refuted_more : (nets : List (Option FlatNet)) (order : List NetId) (asked : List Asked) (s t : ℕ → Bool) (at now : ℕ → ℕ) (n u : ℕ) → ((m : ℕ) → s m ≡ true → t m ≡ true) → AreAlike s now at → IsRefuted nets order asked s at n u → IsRefuted nets order asked t now n u
refuted_more nets order asked s t at now n u h same r = record {
  none = λ to sol a is. r.none to sol (alike_via s to now at same (alike_less s t to now h a)) is;
}

-- ---- nets that are settled

-- what a net at a place reads stands before it, but for nets of which one value is asked for
pub way_before : (nets : List (Option FlatNet)) (order : List NetId) (starts : List ℕ) (asked : List Asked) (place m : ℕ) → IsWay nets order starts asked → place < length order → reads_in nets (net_at order place) m ≡ true → is_only (asked_of asked m) ≡ false → has_id (take place order) m ≡ true
way_before nets order starts asked place m o lt r e = between_first order (slice_index starts place) place m (o.behind place m lt r e)

-- what a net at a place rests on stands before it, in its part
pub rests_between : (nets : List (Option FlatNet)) (order : List NetId) (starts : List ℕ) (asked : List Asked) (place bound m : ℕ) → IsWay nets order starts asked → place < length order → bound ≤ place → rests_on nets order asked (slice_index starts place) bound (net_at order place) m ≡ true → between order (slice_index starts place) place m ≡ true
rests_between nets order starts asked place bound m o lt low h =
    let start = slice_index starts place in
    let p = and_parts (reads_in nets (net_at order place) m || between order start bound m) (not (is_only (asked_of asked m))) h in
    ⊎_elim
    (λ (r : reads_in nets (net_at order place) m ≡ true). o.behind place m lt r (not-true (is_only (asked_of asked m)) p.1))
    (λ (b : between order start bound m ≡ true). between_further order start bound place m low b)
    (or_cases (reads_in nets (net_at order place) m) (between order start bound m) p.0)

pub rests_before : (nets : List (Option FlatNet)) (order : List NetId) (starts : List ℕ) (asked : List Asked) (place bound m : ℕ) → IsWay nets order starts asked → place < length order → bound ≤ place → rests_on nets order asked (slice_index starts place) bound (net_at order place) m ≡ true → has_id (take place order) m ≡ true
rests_before nets order starts asked place bound m o lt low h = between_first order (slice_index starts place) place m (rests_between nets order starts asked place bound m o lt low h)

-- a net may have the same values where those before it have theirs
pub may_kept : (nets : List (Option FlatNet)) (order : List NetId) (starts : List ℕ) (asked : List Asked) (place v : ℕ) (at now : ℕ → ℕ) → IsWay nets order starts asked → place < length order → AreGiven asked at → AreGiven asked now → AreAlike (has_id (take place order)) now at → may_have nets (asked_of asked (net_at order place)) now (net_at order place) v ≡ may_have nets (asked_of asked (net_at order place)) at (net_at order place) v
may_kept nets order starts asked place v at now o lt given still same =
    let n = net_at order place in
    may-local nets (asked_of asked n) n v now at (reads_alike nets asked n (has_id (take place order)) now at (λ m r e. way_before nets order starts asked place m o lt r e) (λ m r e. only_same (asked_of asked m) (now m) (at m) e (still.each m e) (given.each m e)) same)

-- a net stays settled where it and those before it keep their values
pub settled_kept : (nets : List (Option FlatNet)) (order : List NetId) (starts : List ℕ) (asked : List Asked) (place bound : ℕ) (at now : ℕ → ℕ) → IsWay nets order starts asked → place < length order → AreGiven asked at → AreGiven asked now → AreAlike (has_id (take (place + 1) order)) now at → IsSettled nets order asked place (slice_index starts place) bound at (net_at order place) → IsSettled nets order asked place (slice_index starts place) bound now (net_at order place)
settled_kept nets order starts asked place bound at now o lt given still same s =
    let n = net_at order place in
    let start = slice_index starts place in
    let here : now n ≡ at n = same.same n (has_here order place lt) in
    let before : (m : ℕ) → has_id (take place order) m ≡ true → has_id (take (place + 1) order) m ≡ true = λ m h. has_further order place (place + 1) m (omega arith) h in
    record {
      above = s.above;
      low = s.low;
      may = may_kept nets order starts asked place (now n) at now o lt given still (alike_less (has_id (take place order)) (has_id (take (place + 1) order)) now at before same) ∙ (ap (may_have nets (asked_of asked n) at n) here ∙ s.may);
      less = λ u below.
          let test = rests_on nets order asked start bound n in
          let low : u < at n = omega (arith, here) in
          refuted_more nets order asked test test at now n u (λ m h. h) (alike_less test (has_id (take (place + 1) order)) now at (λ m h. before m (rests_before nets order starts asked place bound m o lt s.low h)) same) (s.less u low);
    }

-- nets before a place are settled where those before it keep their values and bounds
pub all_kept : (nets : List (Option FlatNet)) (order : List NetId) (starts : List ℕ) (asked : List Asked) (bounds limits : List ℕ) (at now : ℕ → ℕ) (end place : ℕ) → IsWay nets order starts asked → place ≤ end → AreGiven asked now → AreAlike (has_id (take place order)) now at → ((q : ℕ) → q < place → slice_index limits q ≡ slice_index bounds q) → AreSettled nets order starts asked bounds at end → AreSettled nets order starts asked limits now place
all_kept nets order starts asked bounds limits at now end place o le still same kept s = record {
  inside = omega (arith, s.inside);
  given = still;
  each = λ q low.
      let lt : q < length order = omega (arith, s.inside) in
      let P : ℕ → Type 0 = λ b. IsSettled nets order asked q (slice_index starts q) b now (net_at order q) in
      subst P (sym (kept q low)) (settled_kept nets order starts asked q (slice_index bounds q) at now o lt s.given still (alike_less (has_id (take (q + 1) order)) (has_id (take place order)) now at (λ m h. has_further order (q + 1) place m (omega arith) h) same) (s.each q (omega arith)));
}

-- one more net is settled
pub settled_more : (nets : List (Option FlatNet)) (order : List NetId) (starts : List ℕ) (asked : List Asked) (bounds : List ℕ) (at : ℕ → ℕ) (place : ℕ) → place < length order → AreSettled nets order starts asked bounds at place → IsSettled nets order asked place (slice_index starts place) (slice_index bounds place) at (net_at order place) → AreSettled nets order starts asked bounds at (place + 1)
settled_more nets order starts asked bounds at place lt s new = record {
  inside = omega arith;
  given = s.given;
  each = λ q low.
      ⊎_elim
      (λ (e : q ≡ place). let P : ℕ → Type 0 = λ k. IsSettled nets order asked k (slice_index starts k) (slice_index bounds k) at (net_at order k) in subst P (sym e) new)
      (λ (ne : q ≡ place → ⊥). s.each q (omega arith))
      (cases_eq q place);
}

-- a value that is put at a place changes none before it
pub put_alike : (order : List NetId) (values : List ℕ) (place v : ℕ) → all_differ order ≡ true → place < length order → AreAlike (has_id (take place order)) (slice_index (set values (net_at order place) v)) (slice_index values)
put_alike order values place v once lt = record {
  same = λ m h. get_or-set_other values (net_at order place) m v 0 (λ e. other_at order place m once lt h e);
}

-- a value that will do leaves each net what is asked for
pub put_given : (asked : List Asked) (values : List ℕ) (n v : ℕ) → n < length values → takes (asked_of asked n) v ≡ true → AreGiven asked (slice_index values) → AreGiven asked (slice_index (set values n v))
put_given asked values n v room may given = record {
  each = λ m e.
      ⊎_elim
      (λ (here : m ≡ n).
      let P : ℕ → Type 0 = λ k. takes (asked_of asked k) (slice_index (set values n v) k) ≡ true in
      subst P (sym here) (ap (takes (asked_of asked n)) (get_or-set_same values n v 0 room) ∙ may))
      (λ (ne : m ≡ n → ⊥). ap (takes (asked_of asked m)) (get_or-set_other values n m v 0 ne) ∙ given.each m e)
      (cases_eq m n);
}

-- ---- the ends

-- where the nets at all places are settled, there is a solution
pub all_settled : (nets : List (Option FlatNet)) (order : List NetId) (starts : List ℕ) (asked : List Asked) (bounds : List ℕ) (at : ℕ → ℕ) (end : ℕ) → IsWay nets order starts asked → length order ≤ end → AreSettled nets order starts asked bounds at end → IsSolution nets order asked at
all_settled nets order starts asked bounds at end o all s = record {
  agrees = record {
    each = λ n. ⊎_elim
        (λ (h : is_held nets n ≡ true). (parts n (o.members n ∙ h)).0)
        (λ (none : is_held nets n ≡ false). free (slot nets n) n none)
        (cases_Bool (is_held nets n));
  };
  asks = record { each = λ n h. (parts n h).1 };
}
  where
    parts : (n : ℕ) → has_id order n ≡ true → (net_allows (slot nets n) at (at n) ≡ true) × (takes (asked_of asked n) (at n) ≡ true)
    parts n h =
        let p = id_at order n h in
        let P : ℕ → Type 0 = λ k. may_have nets (asked_of asked k) at k (at k) ≡ true in
        and_parts (net_allows (slot nets n) at (at n)) (takes (asked_of asked n) (at n)) (subst P p.2 (s.each p.0 (omega (arith, p.1))).may)

    free : (f : Option FlatNet) (n : ℕ) → is_some f ≡ false → IsTrue (net_allows f at (at n))
    free None n e = refl
    free (Some f) n e = absurd (false≢true (sym e))

-- A search, net by net of those found.
use Rattle.std.proofs.Common.{◌≡◌, ◌∙◌, ◌⊎◌, ℕ, ◌+◌, ◌<◌, ◌≤◌, Bool, true, ◌&&◌, nat_eq, List, [], length, get_or, Some, refl, sym, ap, arith, ⊎_elim, eqb-true, eq-eqb, All}
use Rattle.std.specs.Prelude.{nat_le, slice_get}
use Rattle.std.proofs.lemmas.Bool.{or_cases, and_parts, and_from, cases_lt, leb-true, le-leb}
use Rattle.std.proofs.lemmas.List.{get_or_past}
use Rattle.std.proofs.lemmas.Option.{same_Some, slice_get_within}
use Rattle.std.proofs.lemmas.Map.Keys.{any_passes_from_place}
use Rattle.mv_base.specs.declared.number.NetId.{NetId}
use Rattle.mv_base.proofs.Lists.{found, get_front}
use Rattle.mv_graph.specs.Nets.{all_differ, has_id, row, AllBelow}
use Rattle.mv_graph.proofs.Columns.{column_below, id_at, none_in}
use Rattle.mv_graph.proofs.Nets.{has_id-append, has_id-at}
use Rattle.mv_dag.specs.declared.way.Way.{Way}
use Rattle.mv_dag.specs.declared.way.Way.TheVariants.{Up, Down}
use Rattle.mv_dag.specs.Ordered.{at}
use Rattle.mv_dag.specs.Searches.{leads_to, Here, Then, IsIn, IsReach}
use Rattle.mv_dag.specs.Finding.{is_in, HasGained, IsSearch}
use Rattle.mv_dag.proofs.Gains.{gained_keeps}

-- ---- windows and steps

is_in-true : (labels : List ℕ) (low high x : ℕ) → is_in labels low high x ≡ true → IsIn labels low high x
is_in-true labels low high x e =
    let p = and_parts (nat_le low (at labels x)) (nat_le (at labels x) high) e in
    (leb-true low (at labels x) p.0, leb-true (at labels x) high p.1)

is_in-from : (labels : List ℕ) (low high x : ℕ) → IsIn labels low high x → is_in labels low high x ≡ true
is_in-from labels low high x h =
    and_from (nat_le low (at labels x)) (nat_le (at labels x) high) (le-leb low (at labels x) h.0) (le-leb (at labels x) high h.1)

-- a net that reads another has a row
pub reader_below : (fanins : List (List NetId)) (n m : ℕ) → has_id (row fanins n) m ≡ true → n < length fanins
reader_below fanins n m h =
    ⊎_elim (λ (low : n < length fanins). low) (λ (high : length fanins ≤ n). absurd (none_in (row fanins n) m (get_or_past fanins n [] high) h))
    (cases_lt n (length fanins))

-- a step leads to a net of the graph
pub step_below : (way : Way) (fanins : List (List NetId)) (x y : ℕ) → AllBelow fanins → leads_to way fanins x y ≡ true → y < length fanins
step_below Up fanins x y below h = column_below fanins x y below h
step_below Down fanins x y below h = reader_below fanins y x h

-- nets of a list that has only such below a number
pub among_below : (nets : List NetId) (size n : ℕ) → All (λ (m : NetId). m.0 < size) nets → has_id nets n ≡ true → n < size
among_below nets size n below h =
    let none : NetId = record { 0 = 0 } in
    let at = id_at nets n h in
    rw (← at.2) (below at.0 none at.1)

pub all_below : (nets : List NetId) (size : ℕ) → ((n : ℕ) → has_id nets n ≡ true → n < size) → All (λ (m : NetId). m.0 < size) nets
all_below nets size h k d lt = h (get_or nets k d).0 (has_id-at nets k d lt)

-- what a net reads, past the last too
pub fanins_below : (fanins : List (List NetId)) (n : ℕ) → AllBelow fanins → All (λ (m : NetId). m.0 < length fanins) (row fanins n)
fanins_below fanins n below = all_below (row fanins n) (length fanins) (λ m h. column_below fanins n m below h)

-- ---- the start

pub search_started : (steps : ℕ → ℕ → Bool) (size : ℕ) (labels : List ℕ) (starts : List NetId) (low high : ℕ) (new : List NetId) → All (λ (n : NetId). n.0 < size) starts → HasGained [] new (λ n. has_id starts n && is_in labels low high n) → IsSearch steps size labels starts low high new 0
search_started steps size labels starts low high new below g = record {
  starts_in = λ x h w. g.each x (and_from (has_id starts x) (is_in labels low high x) h (is_in-from labels low high x w));
  behind = λ place y x lt. absurd (omega arith);
  inside = λ x h. is_in-true labels low high x (passed x h).1;
  reached = λ x h. record { start = x; is = (passed x h).0; leads = Here x };
  small = λ x h. among_below starts size x below (passed x h).0;
}
  where
    passed : (x : ℕ) → has_id new x ≡ true → (has_id starts x ≡ true) × (is_in labels low high x ≡ true)
    passed x h = and_parts (has_id starts x) (is_in labels low high x) (g.only x (ap (λ ns. has_id ns x) (sym g.grown) ∙ h))

-- ---- the next net

pub place_has : (ns : List NetId) (place : ℕ) (x : NetId) → slice_get ns place ≡ Some x → has_id ns x.0 ≡ true
place_has ns place x at = any_passes_from_place (λ (m : NetId). nat_eq m.0 x.0) ns place x at (eq-eqb x.0 x.0 refl)

-- the steps from the next net are done
pub search_next : (steps : ℕ → ℕ → Bool) (size : ℕ) (labels : List ℕ) (starts : List NetId) (low high : ℕ) (old new : List NetId) (done : ℕ) (x : NetId) (nets : List NetId) → IsSearch steps size labels starts low high old done → slice_get old done ≡ Some x → ((n : ℕ) → steps x.0 n ≡ true → has_id nets n ≡ true) → ((n : ℕ) → steps x.0 n ≡ true → n < size) → HasGained old new (λ n. has_id nets n && (is_in labels low high n && steps x.0 n)) → IsSearch steps size labels starts low high new (done + 1)
search_next steps size labels starts low high old new done x nets s at all below g = record {
  starts_in = λ y h w. kept y (s.starts_in y h w);
  behind = behind;
  inside = λ y h. ⊎_elim (λ (o : has_id old y ≡ true). s.inside y o) (λ (n : has_id g.added y ≡ true). is_in-true labels low high y (passed y n).0) (either y h);
  reached = λ y h.
      ⊎_elim (λ (o : has_id old y ≡ true). s.reached y o)
      (λ (n : has_id g.added y ≡ true).
      let r = s.reached x.0 (place_has old done x at) in
      record { start = r.start; is = r.is; leads = Then r.start x.0 y r.leads (passed y n).1 })
      (either y h);
  small = λ y h. ⊎_elim (λ (o : has_id old y ≡ true). s.small y o) (λ (n : has_id g.added y ≡ true). below y (passed y n).1) (either y h);
}
  where
    kept : (y : ℕ) → has_id old y ≡ true → has_id new y ≡ true
    kept y h = gained_keeps old new (λ n. has_id nets n && (is_in labels low high n && steps x.0 n)) g y h

    either : (y : ℕ) → has_id new y ≡ true → (has_id old y ≡ true) ⊎ (has_id g.added y ≡ true)
    either y h = or_cases (has_id old y) (has_id g.added y) (sym (ap (λ ns. has_id ns y) g.grown ∙ has_id-append old g.added y) ∙ h)

    passed : (y : ℕ) → has_id g.added y ≡ true → (is_in labels low high y ≡ true) × (steps x.0 y ≡ true)
    passed y h =
        and_parts (is_in labels low high y) (steps x.0 y) (and_parts (has_id nets y) (is_in labels low high y && steps x.0 y) (g.only y h)).1

    here : (u : NetId) (y : ℕ) → u ≡ x → steps u.0 y ≡ true → IsIn labels low high y → has_id new y ≡ true
    here u y e h w =
        let step : steps x.0 y ≡ true = ap (λ (n : NetId). steps n.0 y) (sym e) ∙ h in
        g.each y (and_from (has_id nets y) (is_in labels low high y && steps x.0 y) (all y step) (and_from (is_in labels low high y) (steps x.0 y) (is_in-from labels low high y w) step))

    behind : (place y : ℕ) (u : NetId) → place < done + 1 → slice_get new place ≡ Some u → steps u.0 y ≡ true → IsIn labels low high y → has_id new y ≡ true
    behind place y u lt there h w =
        let inside = slice_get_within old done x at in
        let front : slice_get old place ≡ Some u = sym (get_front old g.added place (omega arith)) ∙ (ap (λ ns. slice_get ns place) (sym g.grown) ∙ there) in
        ⊎_elim (λ (l : place < done). kept y (s.behind place y u l front h w))
        (λ (r : done ≤ place).
        let p : place ≡ done = omega arith in
        here u y (same_Some u x (sym front ∙ (ap (slice_get old) p ∙ at))) h w)
        (cases_lt place done)

-- ---- the end

pub search_closed : (steps : ℕ → ℕ → Bool) (size : ℕ) (labels : List ℕ) (starts : List NetId) (low high : ℕ) (ns : List NetId) → IsSearch steps size labels starts low high ns (length ns) → (x y : ℕ) → has_id ns x ≡ true → steps x y ≡ true → IsIn labels low high y → has_id ns y ≡ true
search_closed steps size labels starts low high ns s x y h step w =
    let f = found (λ (m : NetId). nat_eq m.0 x) ns h in
    s.behind f.place y f.item (slice_get_within ns f.place f.item f.at) f.at (ap (λ n. steps n y) (eqb-true f.item.0 x f.passes) ∙ step) w

-- no net is left from which no steps were done
pub search_ended : (steps : ℕ → ℕ → Bool) (size : ℕ) (labels : List ℕ) (starts : List NetId) (low high : ℕ) (ns : List NetId) (done : ℕ) → length ns ≤ done → IsSearch steps size labels starts low high ns done → IsSearch steps size labels starts low high ns (length ns)
search_ended steps size labels starts low high ns done high_done s = record {
  starts_in = s.starts_in;
  behind = λ place y x lt. s.behind place y x (omega arith);
  inside = s.inside;
  reached = s.reached;
  small = s.small;
}

pub search_reach : (steps : ℕ → ℕ → Bool) (size : ℕ) (labels : List ℕ) (starts : List NetId) (low high : ℕ) (ns : List NetId) → length labels ≡ size → IsSearch steps size labels starts low high ns (length ns) → all_differ ns ≡ true → IsReach steps labels starts low high ns
search_reach steps size labels starts low high ns long s distinct = record {
  starts_in = s.starts_in;
  closed = search_closed steps size labels starts low high ns s;
  inside = s.inside;
  reached = s.reached;
  small = λ x h. let lt = s.small x h in omega arith;
  distinct = distinct;
}

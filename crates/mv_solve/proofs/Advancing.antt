-- A search advances: read as digits, the values of the nets on the way, each one more, grow, and what is left of them falls.
use Rattle.std.proofs.Common.{◌≡◌, ◌∙◌, ℕ, zero, suc, ◌+◌, ◌<◌, ◌≤◌, true, ◌&&◌, cond, nat_lt, List, [], ◌∷◌, Some, None, is_some, length, set, refl, sym, ap, ⊎_elim, arith, Option, get_or-set_same}
use Rattle.std.specs.Prelude.{slice_index}
use Rattle.std.proofs.lemmas.Bool.{cases_lt, and_parts, false≢true, lt-ltb, le-ltb, ltb-true}
use Rattle.mv_base.specs.declared.number.NetId.{NetId}
use Rattle.mv_graph.specs.Nets.{all_differ}
use Rattle.mv_graph.specs.Sorting.{net_at}
use Rattle.mv_net.specs.declared.parts.FlatNet.{FlatNet}
use Rattle.mv_net.specs.Nets.{slot, values_in}
use Rattle.mv_net.specs.Index.{is_held}
use Rattle.mv_net.specs.Allowed.{net_allows, net_table_allows}
use Rattle.mv_solve.specs.declared.asked.Asked.{Asked}
use Rattle.mv_solve.specs.Asked.{takes, asked_of}
use Rattle.mv_solve.specs.Way.{IsWay, AreSettled, Goes}
use Rattle.mv_solve.proofs.Orders.{has_at, has_here, has_further}
use Rattle.mv_solve.proofs.Settling.{put_alike}
use Rattle.mv_solve.proofs.Mixed.{left, left_falls}

-- the digit at a place: one more than the value of its net where that is on the way
pub digit : List NetId → (ℕ → ℕ) → ℕ → ℕ → ℕ
digit order at place i = cond (nat_lt i place) (at (net_at order i) + 1) 0

digit_on : (order : List NetId) (at : ℕ → ℕ) (place i : ℕ) → i < place → digit order at place i ≡ at (net_at order i) + 1
unfolding digit
digit_on order at place i less = rw (lt-ltb i place less) refl

digit_off : (order : List NetId) (at : ℕ → ℕ) (place i : ℕ) → place ≤ i → digit order at place i ≡ 0
unfolding digit
digit_off order at place i past = rw (le-ltb i place past) refl

-- no net has more values than all have together
all_values : List (Option FlatNet) → ℕ
all_values [] = 0
all_values (f ∷ fs) = values_in f + all_values fs

few_values : (nets : List (Option FlatNet)) (n : ℕ) → values_in (slot nets n) ≤ all_values nets
unfolding all_values
few_values [] n = omega arith
few_values (f ∷ fs) zero = omega arith
few_values (f ∷ fs) (suc n) = let rest = few_values fs n in omega arith

-- a held net has one of its values
value_low : (f : Option FlatNet) (asked : Asked) (at : ℕ → ℕ) (v : ℕ) → is_some f ≡ true → (net_allows f at v && takes asked v) ≡ true → v < values_in f
value_low None asked at v held may = absurd (false≢true held)
value_low (Some f) asked at v held may =
    let p = and_parts (net_allows (Some f) at v) (takes asked v) may in
    let q = and_parts (nat_lt v f.values) (net_table_allows f.table at v) p.0 in
    ltb-true v f.values q.0

-- one more than the greatest digit
base : List (Option FlatNet) → ℕ
base nets = all_values nets + 1

-- what is left for the search to try
pub to_try : List (Option FlatNet) → List NetId → List ℕ → ℕ → ℕ
to_try nets order values place = left (base nets) (digit order (slice_index values) place) (length order)

digit_below : (nets : List (Option FlatNet)) (order : List NetId) (starts : List ℕ) (asked : List Asked) (bounds values : List ℕ) (place i : ℕ) → IsWay nets order starts asked → AreSettled nets order starts asked bounds (slice_index values) place → digit order (slice_index values) place i < base nets
unfolding base
digit_below nets order starts asked bounds values place i o s =
    ⊎_elim
    (λ (less : i < place).
    let n = net_at order i in
    let held : is_held nets n ≡ true = sym (o.members n) ∙ has_at order i (omega (arith, s.inside)) in
    let low = value_low (slot nets n) (asked_of asked n) (slice_index values) (slice_index values n) held (s.each i less).may in
    omega (arith, digit_on order (slice_index values) place i less, low, few_values nets n))
    (λ (past : place ≤ i). omega (arith, digit_off order (slice_index values) place i past))
    (cases_lt i place)

-- a net more has a value
pub falls_on : (nets : List (Option FlatNet)) (order : List NetId) (starts : List ℕ) (asked : List Asked) (bounds values : List ℕ) (place v : ℕ) → IsWay nets order starts asked → place < length order → AreSettled nets order starts asked bounds (slice_index values) place → to_try nets order (set values (net_at order place) v) (place + 1) < to_try nets order values place
unfolding to_try
falls_on nets order starts asked bounds values place v o lt s =
    let now = set values (net_at order place) v in
    let kept = put_alike order values place v o.once lt in
    left_falls (base nets) (digit order (slice_index values) place) (digit order (slice_index now) (place + 1)) (length order) place lt (λ i low. digit_below nets order starts asked bounds values place i o s)
    (λ i less. digit_on order (slice_index values) place i less ∙ (ap (λ k. k + 1) (sym (kept.same (net_at order i) (has_further order (i + 1) place (net_at order i) (omega arith) (has_here order i (omega arith))))) ∙ sym (digit_on order (slice_index now) (place + 1) i (omega arith))))
    (omega (arith, digit_off order (slice_index values) place place (omega arith), digit_on order (slice_index now) (place + 1) place (omega arith)))

-- the net at an earlier place has a higher value
pub falls_back : (nets : List (Option FlatNet)) (order : List NetId) (starts : List ℕ) (asked : List Asked) (bounds values now : List ℕ) (from next : ℕ) → IsWay nets order starts asked → AreSettled nets order starts asked bounds (slice_index values) from → Goes order (slice_index values) (slice_index now) from next → to_try nets order now next < to_try nets order values from
unfolding to_try
falls_back nets order starts asked bounds values now from next o s g =
    let q = g.place in
    let on : q < from = g.back in
    let is : next ≡ q + 1 = g.behind in
    left_falls (base nets) (digit order (slice_index values) from) (digit order (slice_index now) next) (length order) q (omega (arith, s.inside)) (λ i low. digit_below nets order starts asked bounds values from i o s)
    (λ i less. digit_on order (slice_index values) from i (omega arith) ∙ (ap (λ k. k + 1) (sym (g.same i less)) ∙ sym (digit_on order (slice_index now) next i (omega arith))))
    (omega (arith, digit_on order (slice_index values) from q on, digit_on order (slice_index now) next q (omega arith), g.more))

-- a net that gets a higher value on the way back
pub goes_back : (order : List NetId) (values first : List ℕ) (from place v : ℕ) → all_differ order ≡ true → place < length order → place < from → net_at order place < length values → values ≡ first → slice_index values (net_at order place) + 1 ≤ v → Goes order (slice_index first) (slice_index (set values (net_at order place) v)) from (place + 1)
goes_back order values first from place v once lt on room same more =
    let n = net_at order place in
    let now = slice_index (set values n v) in
    let kept = put_alike order values place v once lt in
    record {
      place = place;
      behind = refl;
      back = on;
      same = λ q less. kept.same (net_at order q) (has_further order (q + 1) place (net_at order q) (omega arith) (has_here order q (omega arith))) ∙ ap (λ l. slice_index l (net_at order q)) same;
      more = omega (arith, get_or-set_same values n v 0 room, ap (λ l. slice_index l n) same);
    }

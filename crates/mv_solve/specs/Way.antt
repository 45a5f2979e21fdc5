-- How far a search for a solution has come. For private functions.
use Rattle.std.specs.Prelude.{◌≡◌, ℕ, ◌+◌, ◌<◌, ◌≤◌, Bool, true, false, ◌&&◌, ◌||◌, not, Option, List, length, slice_index}
use Rattle.mv_base.specs.declared.number.NetId.{NetId}
use Rattle.mv_graph.specs.Nets.{all_differ, has_id}
use Rattle.mv_graph.specs.Sorting.{net_at}
use Rattle.mv_net.specs.declared.parts.FlatNet.{FlatNet}
use Rattle.mv_net.specs.Nets.{reads_in}
use Rattle.mv_net.specs.Index.{is_held}
use Rattle.mv_solve.specs.declared.asked.Asked.{Asked}
use Rattle.mv_solve.specs.Asked.{takes, asked_of, may_have, IsSolution}
use Rattle.mv_solve.specs.Known.{is_only}
use Rattle.mv_solve.specs.Marks.{is_marked, between}

-- there is a place for what is kept of each net, and of each place in the order
pub record HasRoom (order : List NetId) (asked : List Asked) (marks : List Bool)
    (bounds values : List ℕ) : Type 0 where
  pub each : (n : ℕ) → has_id order n ≡ true → n < length asked
  pub marked : length marks ≡ length asked
  pub valued : length values ≡ length asked
  pub placed : length bounds ≡ length order

-- that is so of what is known, and there is one for what is asked and of the parts and the way
pub record IsRoomy (order : List NetId) (asked known : List Asked) (marks : List Bool)
    (bounds values : List ℕ) (heads nexts : List (Option NetId)) (way : List NetId)
    (starts places : List ℕ) : Type 0 where
  pub room : HasRoom order known marks bounds values
  pub long : length known ≡ length asked
  pub headed : length heads ≡ length known
  pub linked : length nexts ≡ length known
  pub noted : length places ≡ length known
  pub walked : length way ≡ length order
  pub begun : length starts ≡ length order

-- the nets have the values that are asked for alone
pub record AreGiven (asked : List Asked) (at : ℕ → ℕ) : Type 0 where
  pub each : (m : ℕ) → is_only (asked_of asked m) ≡ true → takes (asked_of asked m) (at m) ≡ true

-- each held net stands in the list once. At each place is the start of its part, the same at all
-- places of the part; and what a net reads stands before it in its part, or one value of it is asked for
pub record IsWay (nets : List (Option FlatNet)) (order : List NetId) (starts : List ℕ)
    (asked : List Asked) : Type 0 where
  pub members : (n : ℕ) → has_id order n ≡ is_held nets n
  pub once : all_differ order ≡ true
  pub held : (n m : ℕ) → reads_in nets n m ≡ true → is_held nets m ≡ true
  pub long : length starts ≡ length order
  pub low : (place : ℕ) → place < length order → slice_index starts place ≤ place
  pub same : (p q : ℕ) → slice_index starts q ≤ p → p ≤ q → q < length order
      → slice_index starts p ≡ slice_index starts q
  pub behind : (place m : ℕ) → place < length order → reads_in nets (net_at order place) m ≡ true
      → is_only (asked_of asked m) ≡ false
      → between order (slice_index starts place) place m ≡ true

-- the nets that pass the test have the same values in both
pub record AreAlike (test : ℕ → Bool) (to at : ℕ → ℕ) : Type 0 where
  pub same : (n : ℕ) → test n ≡ true → to n ≡ at n

-- no net is marked of which one value is asked for
pub record AreOpen (asked : List Asked) (marks : List Bool) : Type 0 where
  pub each : (m : ℕ) → is_marked marks m ≡ true → is_only (asked_of asked m) ≡ false

-- in no solution have the nets that pass the test the values that they have here
pub record NoneAlike (nets : List (Option FlatNet)) (order : List NetId) (asked : List Asked)
    (test : ℕ → Bool) (at : ℕ → ℕ) : Type 0 where
  pub none : (to : ℕ → ℕ) → IsSolution nets order asked to → AreAlike test to at → ⊥

-- in no solution where the nets that pass the test have their values has the net n the value u
pub record IsRefuted (nets : List (Option FlatNet)) (order : List NetId) (asked : List Asked)
    (test : ℕ → Bool) (at : ℕ → ℕ) (n u : ℕ) : Type 0 where
  pub none : (to : ℕ → ℕ) → IsSolution nets order asked to → AreAlike test to at → to n ≡ u
      → ⊥

-- m has more than the one value that is asked for, and the net n reads it or it is at one of the
-- places from `start` on and below `end`
abbrev pub rests_on : List (Option FlatNet) → List NetId → List Asked → ℕ → ℕ → ℕ → ℕ → Bool
rests_on nets order asked start end n m = (reads_in nets n m || between order start end m)
    && not (is_only (asked_of asked m))

-- the net at a place of a part may have the value that it has, and each lower one is refuted by the
-- values of its fanins and those at the places from the start of the part on and below a bound
pub record IsSettled (nets : List (Option FlatNet)) (order : List NetId) (asked : List Asked)
    (place start bound : ℕ) (at : ℕ → ℕ) (n : ℕ) : Type 0 where
  pub above : start ≤ bound
  pub low : bound ≤ place
  pub may : may_have nets (asked_of asked n) at n (at n) ≡ true
  pub less : (u : ℕ) → u < at n
      → IsRefuted nets order asked (rests_on nets order asked start bound n) at n u

-- so are the nets at all places before this one; and the nets have the values that are asked for alone
pub record AreSettled (nets : List (Option FlatNet)) (order : List NetId) (starts : List ℕ)
    (asked : List Asked) (bounds : List ℕ) (at : ℕ → ℕ) (end : ℕ) : Type 0 where
  pub inside : end ≤ length order
  pub given : AreGiven asked at
  pub each : (place : ℕ) → place < end
      → IsSettled nets order asked place (slice_index starts place) (slice_index bounds place) at
      (net_at order place)

-- behind a way back the net at the last place has a higher value, and those before have what they
-- had
pub record Goes (order : List NetId) (old new : ℕ → ℕ) (from next : ℕ) : Type 0 where
  pub place : ℕ
  pub behind : next ≡ place + 1
  pub back : place < from
  pub same : (q : ℕ) → q < place → new (net_at order q) ≡ old (net_at order q)
  pub more : old (net_at order place) < new (net_at order place)

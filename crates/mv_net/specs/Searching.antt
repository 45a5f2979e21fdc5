-- How nets are found by steps, and the tables of a window among them. For private functions.
use Rattle.std.specs.Prelude.{◌≡◌, ◌⊎◌, ◌↔◌, ℕ, zero, suc, ◌<◌, ◌≤◌, Bool, true, false, ◌&&◌, nat_eq}
use Rattle.std.specs.Prelude.{Option, Some, List, ◌++◌, is_some, slice_get}
use Rattle.mv_base.specs.declared.number.NetId.{NetId}
use Rattle.mv_net.specs.declared.parts.FlatNet.{FlatNet}
use Rattle.mv_net.specs.declared.search.Way.{Way}
use Rattle.mv_net.specs.declared.search.Way.TheVariants.{Down, Up}
use Rattle.mv_net.specs.declared.parts.NetParts.{NetParts}
use Rattle.mv_net.specs.Nets.{slot, table_in, reads_in}
use Rattle.mv_net.specs.Index.{is_held}
use Rattle.mv_net.specs.Window.{IsShown}
use Rattle.mv_graph.specs.Above.{IsAbove}
use Rattle.mv_graph.specs.Nets.{has_id}

-- two numbers of nets are equal
abbrev pub same_id : NetId → NetId → Bool
same_id a b = nat_eq a.0 b.0

-- a step leads from one net to another: down to one that reads it, or up to one that it reads
abbrev pub leads : List (Option FlatNet) → Way → ℕ → ℕ → Bool
leads nets Down n m = reads_in nets m n
leads nets Up n m = reads_in nets n m

-- steps lead from n to m, one at least: m is below n, or above it
abbrev pub LedFrom : List (Option FlatNet) → Way → ℕ → ℕ → Type 0
LedFrom nets Down n m = IsAbove (reads_in nets) n m
LedFrom nets Up n m = IsAbove (reads_in nets) m n

-- at most so many steps lead to the net from one of the first nets
unfoldable pub Reached : List (Option FlatNet) → Way → List NetId → ℕ → ℕ → Type 0
Reached nets way first zero m = has_id first m ≡ true
Reached nets way first (suc k) m = Reached nets way first k m
    ⊎ ((n : ℕ) × Reached nets way first k n × (leads nets way n m ≡ true))

-- each net of the list is held
pub record AreHeld (nets : List (Option FlatNet)) (list : List NetId) : Type 0 where
  pub each : (n : ℕ) → has_id list n ≡ true → is_held nets n ≡ true

-- the list has exactly the numbers of which the claim holds
pub record HasExactly (Claim : ℕ → Type 0) (list : List NetId) : Type 0 where
  pub members : (n : ℕ) → (has_id list n ≡ true) ↔ Claim n

-- these nets were put behind the others, each unless it was there
pub record HasAdded (old nets new : List NetId) : Type 0 where
  pub added : List NetId
  pub listed : new ≡ old ++ added
  pub only : (m : ℕ) → has_id added m ≡ true → has_id nets m ≡ true
  pub all : (m : ℕ) → has_id nets m ≡ true → has_id new m ≡ true

-- a step leads to m from a net of the list between two places
pub record IsLed (nets : List (Option FlatNet)) (way : Way) (list : List NetId) (low high m : ℕ)
    : Type 0 where
  pub place : ℕ
  pub net : NetId
  pub from : low ≤ place
  pub to : place < high
  pub at : slice_get list place ≡ Some net
  pub led : leads nets way net.0 m ≡ true

-- the nets to which a step leads from those between two places were put behind the others
pub record HasSpread (nets : List (Option FlatNet)) (way : Way) (low high : ℕ)
    (old new : List NetId) : Type 0 where
  pub added : List NetId
  pub listed : new ≡ old ++ added
  pub held : AreHeld nets new
  pub only : (m : ℕ) → has_id added m ≡ true → IsLed nets way old low high m
  pub all : (m : ℕ) → IsLed nets way old low high m → has_id new m ≡ true

-- exactly the nets are listed to which at most so many steps lead from the first, and the steps
-- were taken from those before `start`
pub record IsSearch (nets : List (Option FlatNet)) (way : Way) (first : List NetId)
    (steps start : ℕ) (list : List NetId) : Type 0 where
  pub held : AreHeld nets list
  pub members : HasExactly (Reached nets way first steps) list
  pub taken : (m : ℕ) → IsLed nets way list 0 start m → has_id list m ≡ true

-- exactly the nets are listed to which steps lead from the first
pub record HasAll (nets : List (Option FlatNet)) (way : Way) (first list : List NetId)
    : Type 0 where
  pub only : (m : ℕ) → has_id list m ≡ true → (steps : ℕ) × Reached nets way first steps m
  pub all : (steps m : ℕ) → Reached nets way first steps m → has_id list m ≡ true

-- the nets of the list that have a table
pub record HasTables (nets : List (Option FlatNet)) (list tables : List NetId) : Type 0 where
  pub each : (m : ℕ) → has_id tables m ≡ (has_id list m && is_some (table_in (slot nets m)))

-- a net of the list reads m, which doesn't pass the test
pub record IsReadBy (nets : List (Option FlatNet)) (inside : ℕ → Bool) (list : List NetId) (m : ℕ)
    : Type 0 where
  pub reader : ℕ
  pub listed : has_id list reader ≡ true
  pub reads : reads_in nets reader m ≡ true
  pub outside : inside m ≡ false

-- m is of the list, and is seen or read by a net that doesn't pass the test
pub record IsShownOf (net : NetParts) (inside : ℕ → Bool) (list : List NetId) (m : ℕ) : Type 0 where
  pub listed : has_id list m ≡ true
  pub shown : IsShown net inside m

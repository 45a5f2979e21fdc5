-- What is asked of an agenda, and what its calls do to it. It is seen as the list of the numbers
-- that wait.
use Rattle.std.specs.Prelude.{◌≡◌, ℕ, ◌<◌, ◌≤◌, Bool, true, false, ◌&&◌, ◌||◌, not, nat_eq, Option, List, length}
use Rattle.std.specs.List.{list_any}
use Rattle.mv_base.specs.declared.number.NetId.{NetId}
use Rattle.mv_graph.specs.Nets.{has_id}
use Rattle.mv_net.specs.declared.parts.FlatNet.{FlatNet}
use Rattle.mv_agenda.specs.Near.{IsNear}

-- the number waits
unfoldable pub waits : List ℕ → ℕ → Bool
waits agenda n = list_any (nat_eq n) agenda

-- no number waits
pub record NoneWaits (agenda : List ℕ) : Type 0 where
  pub none : (n : ℕ) → waits agenda n ≡ false

-- exactly the numbers below the end wait
pub record WaitBelow (agenda : List ℕ) (end : ℕ) : Type 0 where
  pub all : (n : ℕ) → n < end → waits agenda n ≡ true
  pub only : (n : ℕ) → waits agenda n ≡ true → n < end

-- n waits besides
pub record Puts (old new : List ℕ) (n : ℕ) : Type 0 where
  pub each : (m : ℕ) → waits new m ≡ (waits old m || nat_eq n m)

-- these nets wait besides
pub record PutsAll (old new : List ℕ) (nets : List NetId) : Type 0 where
  pub each : (m : ℕ) → waits new m ≡ (waits old m || has_id nets m)

-- n was the least that waited, and waits no more; there is one less
pub record TakesLeast (old new : List ℕ) (n : ℕ) : Type 0 where
  pub waiting : waits old n ≡ true
  pub least : (m : ℕ) → waits old m ≡ true → n ≤ m
  pub rest : (m : ℕ) → waits new m ≡ (waits old m && not (nat_eq n m))
  pub fewer : length new < length old

-- what is near n waits, and what waited still does
pub record PutsNear (nets : List (Option FlatNet)) (n : ℕ) (old new : List ℕ) : Type 0 where
  pub stay : (m : ℕ) → waits old m ≡ true → waits new m ≡ true
  pub near : (m : ℕ) → IsNear nets n m → waits new m ≡ true

-- each number of which P holds waits
pub record AllWait (P : ℕ → Type 0) (agenda : List ℕ) : Type 0 where
  pub each : (n : ℕ) → P n → waits agenda n ≡ true

-- each number of which P holds waits, but n may not
pub record AllWaitBut (P : ℕ → Type 0) (agenda : List ℕ) (n : ℕ) : Type 0 where
  pub each : (m : ℕ) → P m → (n ≡ m → ⊥) → waits agenda m ≡ true

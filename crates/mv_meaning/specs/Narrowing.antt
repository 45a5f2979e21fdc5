-- A table gives way to one that allows less: what has to hold of it, of the tables below its net,
-- and of those round it.
use Rattle.std.specs.Prelude.{◌≡◌, ℕ, Bool, true, false, is_some, Option, List, map}
use Rattle.mv_cover.specs.declared.cover.Cover.{Cover}
use Rattle.mv_cover.specs.Covers.{allowed, cover_reads}
use Rattle.mv_cover.specs.Covering.{IsPoint}
use Rattle.mv_graph.specs.Above.{IsAbove}
use Rattle.mv_net.specs.declared.parts.FlatNet.{FlatNet}
use Rattle.mv_net.specs.declared.parts.NetParts.{NetParts}
use Rattle.mv_net.specs.Nets.{slot, values_in, table_in, reads_in}
use Rattle.mv_net.specs.Allowed.{net_allows}
use Rattle.mv_net.specs.Total.{AllowsValue, IsTotalNet}
use Rattle.mv_net.specs.Window.{IsShown}

-- the new table reads no net that the old one doesn't
pub record ReadsWithin (old new : Cover) : Type 0 where
  pub each : (m : ℕ) → cover_reads new m ≡ true → cover_reads old m ≡ true

-- the new table allows some value at each point where the old one does
pub record KeepsSome (nets : List (Option FlatNet)) (old new : Cover) : Type 0 where
  pub each : (at : ℕ → ℕ) → IsPoint (map values_in nets) at → AllowsValue old at
      → AllowsValue new at

-- each net below n has a total table
pub record AreTotalBelow (nets : List (Option FlatNet)) (n : ℕ) : Type 0 where
  pub each : (m : ℕ) → IsAbove (reads_in nets) n m → IsTotalNet nets m

-- some tables, told by a test, with the nets that they read from outside, and those of them that
-- are seen or read outside
pub record IsRegion (net : NetParts) (inside input output : ℕ → Bool) : Type 0 where
  pub tables : (m : ℕ) → inside m ≡ true → is_some (table_in (slot net.nets m)) ≡ true
  pub inputs : (m k : ℕ) → inside m ≡ true → reads_in net.nets m k ≡ true → inside k ≡ false
      → input k ≡ true
  pub outputs : (m : ℕ) → inside m ≡ true → IsShown net inside m → output m ≡ true

-- the assignment agrees with all tables inside but that of n
pub record AgreesInsideBut (nets : List (Option FlatNet)) (inside : ℕ → Bool) (n : ℕ) (at : ℕ → ℕ)
    : Type 0 where
  pub each : (m : ℕ) → inside m ≡ true → (m ≡ n → ⊥) → net_allows (slot nets m) at (at m) ≡ true

-- an assignment that can stand for the other one inside: it agrees with all tables there, and has
-- the other's values at the inputs and the outputs
pub record IsReplacedBy (nets : List (Option FlatNet)) (inside input output : ℕ → Bool)
    (at : ℕ → ℕ) : Type 0 where
  pub by : ℕ → ℕ
  pub agrees : (m : ℕ) → inside m ≡ true → net_allows (slot nets m) by (by m) ≡ true
  pub inputs : (m : ℕ) → input m ≡ true → by m ≡ at m
  pub outputs : (m : ℕ) → output m ≡ true → by m ≡ at m

-- each assignment that agrees with the other tables inside, and whose value of n the new table
-- allows, can be replaced
pub record StaysInside (nets : List (Option FlatNet)) (inside input output : ℕ → Bool) (n : ℕ)
    (new : Cover) : Type 0 where
  pub each : (at : ℕ → ℕ) → IsPoint (map values_in nets) at → AgreesInsideBut nets inside n at
      → allowed new at (at n) ≡ true
      → IsReplacedBy nets inside input output at

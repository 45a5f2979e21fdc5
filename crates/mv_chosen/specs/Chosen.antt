-- Tables that give way to ones that take one of their values at each point, and reset tables to the
-- one value that they give: what a network then is that is written with one value for each point.
use Rattle.std.specs.Prelude.{◌≡◌, ◌⊎◌, ◌↔◌, ℕ, false, IsTrue, Option, Some, List, map, slice_get}
use Rattle.mv_base.specs.Meaning.{Meaning}
use Rattle.mv_cover.specs.declared.cover.Cover.{Cover}
use Rattle.mv_cover.specs.Covers.{allowed, cover_reads}
use Rattle.mv_cover.specs.Covering.{IsPoint}
use Rattle.mv_meaning.specs.Narrowing.{ReadsWithin}
use Rattle.mv_meaning.specs.Rewriting.{IsReformed}
use Rattle.mv_net.specs.declared.parts.FlatLatch.{FlatLatch}
use Rattle.mv_net.specs.declared.parts.FlatNet.{FlatNet}
use Rattle.mv_net.specs.declared.parts.NetParts.{NetParts}
use Rattle.mv_net.specs.Nets.{slot, values_in, table_in}
use Rattle.mv_net.specs.Allowed.{of_net}

-- where the fanins have the values of the assignment, the new table allows one value and no other,
-- and the old one allows it too
pub record TakesOneAt (old new : Cover) (at : ℕ → ℕ) : Type 0 where
  pub value : ℕ
  pub was_allowed : IsTrue (allowed old at value)
  pub only : (v : ℕ) → IsTrue (allowed new at v) ↔ (v ≡ value)

-- the new table takes one of the old one's values at each point, and reads no net besides
pub record TakesOne (nets : List (Option FlatNet)) (old new : Cover) : Type 0 where
  pub reads : ReadsWithin old new
  pub each : (at : ℕ → ℕ) → IsPoint (map values_in nets) at → TakesOneAt old new at

-- the table reads no net, and allows this value alone
pub record IsConstant (c : Cover) (value : ℕ) : Type 0 where
  pub unread : (m : ℕ) → cover_reads c m ≡ false
  pub only : (at : ℕ → ℕ) (v : ℕ) → IsTrue (allowed c at v) ↔ (v ≡ value)

-- whatever is allowed, the latch at this place has this reset value
pub record AlwaysResets (m : Meaning) (place value : ℕ) : Type 0 where
  pub each : (i s o n r : List ℕ) → m.allows i s o n r → slice_get r place ≡ Some value

-- n is the reset net of a latch, and the table is the value that the latch always has at reset
pub record IsFixed (net : NetParts) (n : ℕ) (c : Cover) : Type 0 where
  pub place : ℕ
  pub latch : FlatLatch
  pub there : slice_get net.latches place ≡ Some latch
  pub reset : latch.reset ≡ Some (record { 0 = n })
  pub value : ℕ
  pub always : AlwaysResets (of_net net) place value
  pub constant : IsConstant c value

-- nets that differ from the network's in what stands in their tables alone: each table stays, or is
-- so a reset net's value
pub record HaveFixedResets (net : NetParts) (nets : List (Option FlatNet)) : Type 0 where
  pub alike : IsReformed net.nets nets
  pub each : (n : ℕ) (c d : Cover) → table_in (slot net.nets n) ≡ Some c
      → table_in (slot nets n) ≡ Some d → (d ≡ c) ⊎ IsFixed net n d

-- the same, where a table may also take one of the values at each point
pub record AreChosen (net : NetParts) (nets : List (Option FlatNet)) : Type 0 where
  pub alike : IsReformed net.nets nets
  pub each : (n : ℕ) (c d : Cover) → table_in (slot net.nets n) ≡ Some c
      → table_in (slot nets n) ≡ Some d
      → (d ≡ c) ⊎ (TakesOne net.nets c d ⊎ IsFixed net n d)

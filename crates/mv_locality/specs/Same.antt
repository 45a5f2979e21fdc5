-- Counts of values, nets and networks that are the same as far as one table, or one net, has to do
-- with them.
use Rattle.std.specs.Prelude.{◌≡◌, ◌⊎◌, ℕ, true, false, Option, List, slice_index}
use Rattle.mv_cover.specs.declared.line.Line.{Line}
use Rattle.mv_cover.specs.Covers.{lines_read}
use Rattle.mv_net.specs.declared.parts.FlatNet.{FlatNet}
use Rattle.mv_net.specs.declared.parts.NetParts.{NetParts}
use Rattle.mv_net.specs.Changes.{with_nets}
use Rattle.mv_net.specs.Formed.{WellFormed}
use Rattle.mv_net.specs.Nets.{slot, values_in, reads_in}
use Rattle.mv_locality.specs.Local.{KeepsValues, IsStill}

-- the new network has other nets at most and is well formed, no held net has another number of
-- values, and nothing has changed for the net at n
pub record StaysAt (old new : NetParts) (n : ℕ) : Type 0 where
  pub formed : WellFormed new
  pub nets : new ≡ with_nets old new.nets
  pub values : KeepsValues old.nets new.nets
  pub still : IsStill old.nets new.nets n

-- ---- what follows, the same both ways

-- each net that the lines have literals on has the same count in both lists
pub record SameCounts (counts others : List ℕ) (lines : List Line) : Type 0 where
  pub each : (n : ℕ) → lines_read lines n ≡ true → slice_index counts n ≡ slice_index others n

-- the net at n is as it was, and each net that it reads has the values that it had
pub record KeepsNet (old new : List (Option FlatNet)) (n : ℕ) : Type 0 where
  pub same : slot new n ≡ slot old n
  pub values : (m : ℕ) → reads_in old n m ≡ true → values_in (slot new m) ≡ values_in (slot old m)

-- so are the net at n and its readers, and no net has become a reader or is none any more
pub record KeepsReaders (old new : List (Option FlatNet)) (n : ℕ) : Type 0 where
  pub net : KeepsNet old new n
  pub readers : (k : ℕ)
      → KeepsNet old new k ⊎ ((reads_in old k n ≡ false) × (reads_in new k n ≡ false))

-- and the networks have the same outputs and latches
pub record KeepsPlace (old new : NetParts) (n : ℕ) : Type 0 where
  pub outputs : new.outputs ≡ old.outputs
  pub latches : new.latches ≡ old.latches
  pub around : KeepsReaders old.nets new.nets n

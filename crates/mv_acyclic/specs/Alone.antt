-- Which latches are above which nets, by number. For private functions.
use Rattle.std.specs.Prelude.{◌≡◌, ◌⊎◌, ℕ, ◌+◌, ◌<◌, ◌≤◌, true, nat_le, if◌then◌else◌, List, [], ◌∷◌, ◌++◌, length, slice_index_or}
use Rattle.std.specs.Prelude.{Option, Some, None, IfSome, IfNone}
use Rattle.mv_base.specs.Names.{among}
use Rattle.mv_base.specs.declared.number.NetId.{NetId}
use Rattle.mv_design.specs.declared.design.FileModel.{FileModel}
use Rattle.mv_design.specs.declared.table.FileTable.{FileTable}
use Rattle.mv_design.specs.Nets.{drivers, output_of, latch_outputs}
use Rattle.mv_fault.specs.declared.flat.FlatFault.{FlatFault}
use Rattle.mv_fault.specs.declared.flat.FlatFault.TheVariants.{ResetReadsLatch, Memory}
use Rattle.mv_graph.specs.Nets.{has_id}
use Rattle.mv_graph.specs.Above.{IsAbove, reads_by}
use Rattle.mv_acyclic.specs.Columns.{columns_by_net}
use Rattle.mv_acyclic.specs.Numbers.{numbers_in}
use Rattle.mv_acyclic.specs.Sound.{IsAboveReset, IsFirstReading}

-- the number k is one of low .. high
pub record IsBetween (low high k : ℕ) : Type 0 where
  pub from : low ≤ k
  pub below : k < high

-- the number k is one of low .. high, and it is the net n, or above it
pub record IsFound (columns : List (List NetId)) (low high n k : ℕ) : Type 0 where
  pub within : IsBetween low high k
  pub above : (k ≡ n) ⊎ IsAbove (reads_by columns) k n

-- one of these nets has the number k
pub record IsFoundAt (Has : ℕ → ℕ → Type 0) (nets : List NetId) (k : ℕ) : Type 0 where
  pub net : ℕ
  pub listed : has_id nets net ≡ true
  pub found : Has net k

-- the least of the numbers of which P holds; None where it holds of none
pub record IsLeast (P : ℕ → Type 0) (o : Option NetId) : Type 0 where
  pub some : IfSome o (λ n. P n.0)
  pub least : IfSome o (λ n. (k : ℕ) → P k → n.0 ≤ k)
  pub none : IfNone o ((k : ℕ) → P k → ⊥)

-- the least number of low .. high that is the net n, or above it
abbrev pub IsLeastAbove : List (List NetId) → ℕ → ℕ → ℕ → Option NetId → Type 0
IsLeastAbove columns low high n o = IsLeast (IsFound columns low high n) o

-- the same for each net
pub record AreLeastAbove (columns : List (List NetId)) (low high : ℕ) (above : List (Option NetId))
    : Type 0 where
  pub long : length above ≡ length columns
  pub each : (n : ℕ) → n < length columns
      → IsLeastAbove columns low high n (slice_index_or above n None)

-- for each driven net the first latch output that is the net, or above it
abbrev pub AreLatchesAbove : FileModel → List (Option NetId) → Type 0
AreLatchesAbove m above =
    AreLeastAbove (columns_by_net (drivers m) m) (length m.inputs)
    (length m.inputs + length m.latches) above

-- the number k is that of a latch output, which is a column of the reset table, or above one
abbrev pub IsNumberAbove : FileModel → FileTable → ℕ → Type 0
IsNumberAbove m reset k =
    IsFoundAt (IsFound (columns_by_net (drivers m) m) (length m.inputs)
    (length m.inputs + length m.latches)) (numbers_in (drivers m) reset.inputs) k

-- the lesser of two numbers, where there are two
abbrev pub lesser_of : Option NetId → Option NetId → Option NetId
lesser_of None b = b
lesser_of (Some a) None = Some a
lesser_of (Some a) (Some b) = Some (if nat_le a.0 b.0 then a else b)

-- the least of a number and of those that stand at these nets
abbrev pub least_from : List (Option NetId) → Option NetId → List NetId → Option NetId
least_from above least [] = least
least_from above least (n ∷ ns) =
    least_from above (lesser_of least (slice_index_or above n.0 None)) ns

-- the latch that a reset table names, and the first latch output, in the order of the latches,
-- above its reset value
pub record IsReading (m : FileModel) (reset : FileTable) (latch reached : List ℕ) : Type 0 where
  pub is : latch ≡ output_of reset
  pub lower : List (List ℕ)
  pub higher : List (List ℕ)
  pub listed : latch_outputs m ≡ lower ++ reached ∷ higher
  pub above : IsAboveReset m reset reached
  pub least : (w : List ℕ) → among w lower ≡ true → IsAboveReset m reset w → ⊥

-- want of memory, or what a reset table reads
abbrev pub TellsReading : FileModel → FileTable → FlatFault → Type 0
TellsReading m reset (ResetReadsLatch latch reached) = IsReading m reset latch reached
TellsReading m reset Memory = Unit {0}
TellsReading m reset _ = ⊥

-- want of memory, or the first reset value of a model with a latch above it
abbrev pub TellsAlone : FileModel → FlatFault → Type 0
TellsAlone m (ResetReadsLatch latch reached) = IsFirstReading m latch reached
TellsAlone m Memory = Unit {0}
TellsAlone m _ = ⊥

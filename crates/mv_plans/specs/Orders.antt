-- Whether a net may get a table, by the order of the nets.
use Rattle.std.specs.Prelude.{◌≡◌, ◌⊎◌, ℕ, true, is_some, Option, Some, None, List}
use Rattle.std.specs.List.{Any}
use Rattle.mv_base.specs.declared.number.NetId.{NetId}
use Rattle.mv_cover.specs.declared.cover.Cover.{Cover}
use Rattle.mv_graph.specs.Above.{IsAbove}
use Rattle.mv_graph.specs.Nets.{has_id}
use Rattle.mv_meaning.specs.Rewriting.{IsOverTable, PutsAbove}
use Rattle.mv_net.specs.declared.parts.FlatNet.{FlatNet}
use Rattle.mv_net.specs.declared.parts.FlatLatch.{FlatLatch}
use Rattle.mv_net.specs.Nets.{slot, table_in, reads_in}

-- the net n may get this table: it is neither the net d nor above it, the table reads neither n nor
-- a net below it, and no latch output comes above a reset net
pub record KeepsOrder (nets : List (Option FlatNet)) (n d : ℕ) (body : Cover) : Type 0 where
  pub other : n ≡ d → ⊥
  pub not_above : IsAbove (reads_in nets) n d → ⊥
  pub free : IsOverTable nets body n → ⊥
  pub alone : (latch reset : ℕ) → PutsAbove nets n body latch reset → ⊥

-- ---- what private functions alone cite

-- n is the net m, or above it
pub record IsFrom (nets : List (Option FlatNet)) (n m : ℕ) : Type 0 where
  pub up : (n ≡ m) ⊎ IsAbove (reads_in nets) n m

-- n is one of these nets, or above one
pub record IsOver (nets : List (Option FlatNet)) (fanins : List NetId) (n : ℕ) : Type 0 where
  pub some : Any (λ (m : NetId). IsFrom nets n m.0) fanins

-- there is a reset net, and n is that or above it
abbrev pub IsFromReset : List (Option FlatNet) → ℕ → Option NetId → Type 0
IsFromReset nets n None = ⊥
IsFromReset nets n (Some reset) = IsFrom nets n reset.0

-- n is the reset net of one of these latches, or above one
pub record IsUnderReset (nets : List (Option FlatNet)) (latches : List FlatLatch) (n : ℕ)
    : Type 0 where
  pub some : Any (λ (l : FlatLatch). IsFromReset nets n l.reset) latches

-- the output of one of these latches is one of the nets, or above one
pub record ReadsState (nets : List (Option FlatNet)) (latches : List FlatLatch)
    (fanins : List NetId) : Type 0 where
  pub some : Any (λ (l : FlatLatch). IsOver nets fanins l.output.0) latches

-- each of these nets is the one, or one of the others
pub record AreAmong (nets : List NetId) (but : ℕ) (others : List NetId) : Type 0 where
  pub each : (m : ℕ) → has_id nets m ≡ true → (m ≡ but) ⊎ (has_id others m ≡ true)

-- the net d has a table, and n reads each of these nets but d, and each net that d reads
pub record ReadsNoMore (nets : List (Option FlatNet)) (n d : ℕ) (fanins : List NetId) : Type 0 where
  pub tabled : is_some (table_in (slot nets d)) ≡ true
  pub listed : (m : ℕ) → has_id fanins m ≡ true → (m ≡ d) ⊎ (reads_in nets n m ≡ true)
  pub through : (m : ℕ) → reads_in nets d m ≡ true → (m ≡ d) ⊎ (reads_in nets n m ≡ true)

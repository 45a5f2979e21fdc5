-- When a model without instances is sound: each net that it names is driven exactly once, each
-- reset table has a latch, and each latch one reset table at most, no net is above itself, and no
-- latch above a reset value. It speaks of one such model; a design's instances are made one model
-- first.
use Rattle.std.specs.Prelude.{◌≡◌, ◌⊎◌, ℕ, ◌≤◌, Bool, true, not, ◌&&◌, ◌==◌, nat_lt, List, [], ◌∷◌, ◌++◌, length, map, All}
use Rattle.std.specs.List.{list_all, list_any}
use Rattle.mv_base.specs.Names.{among, names_differ}
use Rattle.mv_base.specs.declared.limits.TheConstants.{MAX_FLAT_NETS, MAX_FLAT_NAME_BYTES}
use Rattle.mv_fault.specs.Tells.{when}
use Rattle.mv_fault.specs.declared.fault.Which.TheVariants.{NetName}
use Rattle.mv_graph.specs.Above.{IsAbove, IsAcyclic}
use Rattle.mv_design.specs.declared.design.FileModel.{FileModel}
use Rattle.mv_design.specs.declared.table.FileTable.{FileTable}
use Rattle.mv_fault.specs.declared.flat.FlatFault.{FlatFault}
use Rattle.mv_fault.specs.declared.flat.FlatFault.TheVariants.{DrivenTwice, Undriven, NoLatch, ResetTwice, Cycle, ResetReadsLatch, Limit, Memory}
use Rattle.mv_design.specs.Nets.{nets_of, drivers_of, output_of, latch_outputs}

-- `net` is an output of the table, and `above` an input of it
abbrev pub reads_through : List ℕ → List ℕ → FileTable → Bool
reads_through net above t = among net t.outputs && among above t.inputs

-- some table whose output is `net` has a column `above`
unfoldable pub reads : FileModel → List ℕ → List ℕ → Bool
reads m net above = list_any (reads_through net above) m.tables

-- these are the nets that the model names, in some order
pub record AreNetsOf (m : FileModel) (nets : List (List ℕ)) : Type 0 where
  pub named : (net : List ℕ) → among net nets ≡ among net (nets_of m)

-- the first net that is above itself, where the model's nets stand in this order
pub record IsFirstOnCycle (order : List (List ℕ)) (m : FileModel) (net : List ℕ) : Type 0 where
  pub cycle : IsAbove (reads m) net net
  pub before : List (List ℕ)
  pub after : List (List ℕ)
  pub place : order ≡ before ++ net ∷ after
  pub least : (w : List ℕ) → among w before ≡ true → IsAbove (reads m) w w → ⊥

-- the net is above the reset value that the table gives: it is a column of the table, or above one
pub record IsAboveReset (m : FileModel) (reset : FileTable) (net : List ℕ) : Type 0 where
  pub column : List ℕ
  pub listed : among column reset.inputs ≡ true
  pub above : (net ≡ column) ⊎ IsAbove (reads m) net column

-- a latch's output isn't above a reset value
abbrev pub StandsAlone : FileModel → FileTable → Type 0
StandsAlone m reset = (latch : List ℕ) → among latch (latch_outputs m) ≡ true
    → IsAboveReset m reset latch → ⊥

-- the first reset table with a latch output above its reset value, and the first such output in the
-- order of the latches
pub record IsFirstReading (m : FileModel) (latch reached : List ℕ) : Type 0 where
  pub reset : FileTable
  pub before : List FileTable
  pub after : List FileTable
  pub place : m.resets ≡ before ++ reset ∷ after
  pub is : latch ≡ output_of reset
  pub earlier : All (StandsAlone m) before
  pub lower : List (List ℕ)
  pub higher : List (List ℕ)
  pub listed : latch_outputs m ≡ lower ++ reached ∷ higher
  pub above : IsAboveReset m reset reached
  pub least : (w : List ℕ) → among w lower ≡ true → IsAboveReset m reset w → ⊥

-- what is told where something is above itself, or a latch above a reset value: the first net on a
-- cycle, where the model's nets stand in this order; where there is none, the first reset value
-- with a latch above it. Of want of memory nothing is said
abbrev pub TellsAbove : List (List ℕ) → FileModel → FlatFault → Type 0
TellsAbove order m (Cycle net) = IsFirstOnCycle order m net
TellsAbove order m (ResetReadsLatch latch reached) = IsAcyclic (reads m)
    × IsFirstReading m latch reached
TellsAbove order m Memory = Unit {0}
TellsAbove order m _ = ⊥

-- the fault of a net that is driven more than once
abbrev pub twice_at : FileModel → List ℕ → List FlatFault
twice_at m net = when (nat_lt 1 (drivers_of m net)) (DrivenTwice net)

-- the fault of a net that nothing drives
abbrev pub undriven_at : FileModel → List ℕ → List FlatFault
undriven_at m net = when (drivers_of m net == 0) (Undriven net)

-- the fault of a net whose name is too long
abbrev pub long_at : List ℕ → List FlatFault
long_at net = when (nat_lt MAX_FLAT_NAME_BYTES (length net)) (Limit NetName (length net))

-- the faults of reset tables, where these latches are in the model, and those have a reset table
-- already: one whose output is no latch, and a second one of a latch
abbrev pub reset_owner_faults : List (List ℕ) → List (List ℕ) → List (List ℕ) → List FlatFault
reset_owner_faults latches seen [] = []
reset_owner_faults latches seen (w ∷ ws) =
    when (not (among w latches)) (NoLatch w)
    ++ (when (among w seen) (ResetTwice w) ++ reset_owner_faults latches (seen ++ w ∷ []) ws)

-- the latches that the reset tables of a model name, in order
abbrev pub resets_named : FileModel → List (List ℕ)
resets_named m = map output_of m.resets

-- the faults of a model's reset tables
unfoldable pub model_reset_faults : FileModel → List FlatFault
model_reset_faults m = reset_owner_faults (latch_outputs m) [] (resets_named m)

-- the nets of a model pass no limit: there aren't too many, and no name is too long
pub record IsWithinLimits (m : FileModel) : Type 0 where
  pub few : length (nets_of m) ≤ MAX_FLAT_NETS
  pub short : (net : List ℕ) → among net (nets_of m) ≡ true → length net ≤ MAX_FLAT_NAME_BYTES

-- each net that the model names has one driver
pub record IsDrivenOnce (m : FileModel) : Type 0 where
  pub once : (net : List ℕ) → among net (nets_of m) ≡ true → drivers_of m net ≡ 1

-- each reset table is that of a latch of the model, and no latch has two
pub record HasResetsOfLatches (m : FileModel) : Type 0 where
  pub latches : list_all (λ w. among w (latch_outputs m)) (resets_named m) ≡ true
  pub differ : names_differ (resets_named m) ≡ true

-- a sound model: each net is driven once, each reset table has its own latch, no net is above
-- itself, and no latch's output above a reset value
pub record IsSoundModel (m : FileModel) : Type 0 where
  pub driven : IsDrivenOnce m
  pub resets : HasResetsOfLatches m
  pub acyclic : IsAcyclic (reads m)
  pub alone : All (StandsAlone m) m.resets

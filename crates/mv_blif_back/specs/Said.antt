-- Networks that can be written as BLIF, with what is said of each latch besides its nets.
use Rattle.std.specs.Prelude.{◌≡◌, ℕ, ◌≤◌, ◌<◌, true, false, nat_lt, Option, Some, None, List, [], ◌∷◌, length, map, codes}
use Rattle.mv_base.specs.Names.{same_word, among}
use Rattle.mv_base.specs.declared.limits.TheConstants.{MAX_COLUMNS, MAX_TABLE_LINES}
use Rattle.mv_base.specs.declared.number.NetId.{NetId}
use Rattle.mv_cover.specs.declared.cover.Cover.{Cover}
use Rattle.mv_design.specs.Values.{two_values}
use Rattle.mv_graph.specs.Nets.{has_id}
use Rattle.mv_latch.specs.declared.latch.BlifLatch.{BlifLatch}
use Rattle.mv_net.specs.declared.parts.FlatLatch.{FlatLatch}
use Rattle.mv_net.specs.declared.parts.FlatNet.{FlatNet}
use Rattle.mv_net.specs.declared.parts.NetParts.{NetParts}
use Rattle.mv_net.specs.Formed.{latch_outputs}
use Rattle.mv_net.specs.Nets.{slot, values_in, spelled_in, table_in, has_reset}
use Rattle.mv_net.specs.Total.{IsTotal}
use Rattle.mv_text.specs.Text.{fanins_of, names_of}
use Rattle.mv_blif_text.specs.BlifText.{choice_words}

-- what is said of a latch can be written and read: there is a control only where there is a kind,
-- it is one of the inputs, and isn't named as a control that is none; and the latch begins with 0
-- or 1 exactly where it has a reset net
pub record IsSaid (net : NetParts) (l : FlatLatch) (b : BlifLatch) : Type 0 where
  pub bare : b.kind ≡ None → b.control ≡ None
  pub control : (w : List ℕ) → b.control ≡ Some w → among w (names_of net.nets net.inputs) ≡ true
  pub plain : (w : List ℕ) → b.control ≡ Some w → same_word w (codes "NIL") ≡ false
  pub init : b.init < 4
  pub reset : has_reset l.reset ≡ nat_lt b.init 2

-- something is said of each latch, in order
abbrev pub AreSaid : NetParts → List FlatLatch → List BlifLatch → Type 0
AreSaid net [] [] = Unit {0}
AreSaid net [] (_ ∷ _) = ⊥
AreSaid net (_ ∷ _) [] = ⊥
AreSaid net (l ∷ ls) (b ∷ bs) = IsSaid net l b × AreSaid net ls bs

-- each of these nets has the values 0 and 1, and no names of its own for them
pub record ArePlain (nets : List (Option FlatNet)) (list : List NetId) : Type 0 where
  pub each : (n : NetId) → has_id list n.0 ≡ true → spelled_in (slot nets n.0) ≡ two_values

-- the network can be written so: no net has more than two values, those that are seen from outside
-- have just the values 0 and 1, and each table is total
pub record IsBinary (net : NetParts) : Type 0 where
  pub few : (n : ℕ) → values_in (slot net.nets n) ≤ 2
  pub inputs : ArePlain net.nets net.inputs
  pub outputs : ArePlain net.nets net.outputs
  pub latches : ArePlain net.nets (latch_outputs net.latches)
  pub total : (n : ℕ) (c : Cover) → table_in (slot net.nets n) ≡ Some c → IsTotal net.nets c

-- what the latches begin with
abbrev pub inits : List BlifLatch → List ℕ
inits bs = map (λ (b : BlifLatch). b.init) bs

-- no table has more columns or rows than one of a file may have
pub record HasSmallTables (net : NetParts) : Type 0 where
  pub columns : (n : ℕ) (c : Cover) → table_in (slot net.nets n) ≡ Some c
      → length (fanins_of (length net.nets) c) < MAX_COLUMNS
  pub rows : (n : ℕ) (c : Cover) → table_in (slot net.nets n) ≡ Some c
      → length (choice_words (fanins_of (length net.nets) c) c) ≤ MAX_TABLE_LINES

-- Tables that allow some value at every point, and nets that can go.
use Rattle.std.specs.Prelude.{◌≡◌, ℕ, true, false, Option, Some, List, map}
use Rattle.mv_cover.specs.declared.cover.Cover.{Cover}
use Rattle.mv_cover.specs.Covers.{allowed}
use Rattle.mv_cover.specs.Covering.{IsPoint}
use Rattle.mv_net.specs.declared.parts.FlatNet.{FlatNet}
use Rattle.mv_net.specs.declared.parts.NetParts.{NetParts}
use Rattle.mv_net.specs.Nets.{slot, values_in, net_reads}
use Rattle.mv_net.specs.Index.{is_seen}

-- the cover allows some value where the fanins have the values of the assignment
pub record AllowsValue (c : Cover) (at : ℕ → ℕ) : Type 0 where
  pub value : ℕ
  pub is_allowed : allowed c at value ≡ true

-- the cover allows some value wherever each net has one of its values
pub record IsTotal (nets : List (Option FlatNet)) (c : Cover) : Type 0 where
  pub some : (at : ℕ → ℕ) → IsPoint (map values_in nets) at → AllowsValue c at

-- the net at a number has a table that is total
pub record IsTotalNet (nets : List (Option FlatNet)) (n : ℕ) : Type 0 where
  pub net : FlatNet
  pub held : slot nets n ≡ Some net
  pub cover : Cover
  pub table : net.table ≡ Some cover
  pub total : IsTotal nets cover

-- a net that can go: nobody sees it, no table reads it, and its own table is total
pub record IsRemovable (net : NetParts) (n : ℕ) : Type 0 where
  pub unseen : is_seen net n ≡ false
  pub unread : (m : ℕ) → net_reads (slot net.nets m) n ≡ false
  pub total : IsTotalNet net.nets n

-- New tables for the readers of a net, each made of its old one.
use Rattle.std.specs.Prelude.{◌≡◌, ℕ, Bool, true, Option, Some, List, map}
use Rattle.mv_base.specs.declared.number.NetId.{NetId}
use Rattle.mv_cover.specs.declared.cover.Cover.{Cover}
use Rattle.mv_graph.specs.Nets.{has_id, IsAscending}
use Rattle.mv_meaning.specs.Rewriting.{IsReader}
use Rattle.mv_net.specs.declared.change.NewTable.{NewTable}
use Rattle.mv_net.specs.declared.parts.FlatNet.{FlatNet}
use Rattle.mv_net.specs.Changes.{table_for}
use Rattle.mv_net.specs.Nets.{slot, reads_in}

-- these are new tables for the nets of a list, each made of the one that reads n
pub record AreTablesFor (nets : List (Option FlatNet)) (new : Cover → Cover) (n : ℕ)
    (list : List NetId) (set : List NewTable) : Type 0 where
  pub given : map (λ (t : NewTable). t.net) set ≡ list
  pub tables : (m : ℕ) (c : Cover) → has_id list m ≡ true → IsReader nets n m c
      → table_for m set ≡ Some (new c)

-- these are new tables for all readers of n
pub record AreRewritten (nets : List (Option FlatNet)) (new : Cover → Cover) (n : ℕ)
    (set : List NewTable) : Type 0 where
  pub readers : List NetId
  pub ascending : IsAscending (λ m. reads_in nets m n) readers
  pub tables : AreTablesFor nets new n readers set

-- of these nets each that reads n has a table of which this holds
pub record EachReader (nets : List (Option FlatNet)) (n : ℕ) (readers : ℕ → Bool)
    (Is : Cover → Type 0) : Type 0 where
  pub each : (m : ℕ) (c : Cover) → readers m ≡ true → IsReader nets n m c → Is c

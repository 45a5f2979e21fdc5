-- The change by which values of a net are merged. What private functions alone cite.
use Rattle.std.specs.Prelude.{◌≡◌, Option, Some, None, List, [], ◌∷◌, map}
use Rattle.mv_base.specs.declared.number.NetId.{NetId}
use Rattle.mv_cover.specs.declared.cover.Cover.{Cover}
use Rattle.mv_graph.specs.Nets.{IsAscending}
use Rattle.mv_net.specs.declared.change.NewTable.{NewTable}
use Rattle.mv_net.specs.declared.parts.FlatNet.{FlatNet}
use Rattle.mv_net.specs.Nets.{slot, table_in, net_reads}
use Rattle.mv_merging.specs.declared.merging.Merging.{Merging}
use Rattle.mv_merging.specs.Tables.{own_merged, reader_merged}

-- the table, or one without lines
abbrev pub table_or_none : Option Cover → Cover
table_or_none None = record { lines = []; default = None }
table_or_none (Some c) = c

-- the new table for a reader of n, and the one for n itself
abbrev pub reader_table : Merging → NetId → List (Option FlatNet) → NetId → NewTable
reader_table m n nets k =
    record { net = k; table = reader_merged m n.0 (table_or_none (table_in (slot nets k.0))) }

abbrev pub own_table : Merging → NetId → List (Option FlatNet) → NewTable
own_table m n nets =
    record { net = n; table = own_merged m (table_or_none (table_in (slot nets n.0))) }

-- these are a new table for n itself, and behind it one for each reader of n
pub record AreMerged (nets : List (Option FlatNet)) (m : Merging) (n : NetId) (set : List NewTable)
    : Type 0 where
  pub readers : List NetId
  pub ascending : IsAscending (λ k. net_reads (slot nets k) n.0) readers
  pub tables : set ≡ own_table m n nets ∷ map (reader_table m n nets) readers

-- A network behind the merge of values of one of its nets.
use Rattle.std.specs.Prelude.{ℕ, ◌-◌, Option, Some, None, List, [], slice_set}
use Rattle.mv_base.specs.declared.number.Value.{Value}
use Rattle.mv_cover.specs.declared.cover.Cover.{Cover}
use Rattle.mv_meaning.specs.Rewriting.{rewritten}
use Rattle.mv_net.specs.declared.parts.FlatNet.{FlatNet}
use Rattle.mv_net.specs.declared.parts.NetParts.{NetParts}
use Rattle.mv_net.specs.Changes.{with_nets}
use Rattle.mv_net.specs.Nets.{slot, values_in}
use Rattle.mv_merging.specs.declared.merging.Merging.{Merging}
use Rattle.mv_merging.specs.Tables.{own_merged, reader_merged}

-- its own table, if the net has one
abbrev pub table_merged : Merging → Option Cover → Option Cover
table_merged m None = None
table_merged m (Some c) = Some (own_merged m c)

-- the net has the values that are left, without names of their own, and its own table behind the
-- merge
abbrev pub net_merged : Merging → Option FlatNet → Option FlatNet
net_merged m None = None
net_merged m (Some f) =
    Some (record f { values = m.left; value_names = []; table = table_merged m f.table })

-- the nets, of which the one at n has such a table and those that read it have theirs
unfoldable pub nets_merged : Merging → ℕ → List (Option FlatNet) → List (Option FlatNet)
nets_merged m n nets =
    slice_set (rewritten (reader_merged m n) n nets) n (net_merged m (slot nets n))

-- the merge of two values of a net, or of one into none: one value less is left
abbrev pub merging_at : List (Option FlatNet) → ℕ → Value → Option Value → Merging
merging_at nets n gone into =
    record { left = values_in (slot nets n) - 1; gone = gone; into = into }

-- the network behind it
unfoldable pub net_behind : NetParts → ℕ → Value → Option Value → NetParts
net_behind net n gone into =
    with_nets net (nets_merged (merging_at net.nets n gone into) n net.nets)

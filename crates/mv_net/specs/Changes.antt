-- What a change makes of a network.
use Rattle.std.specs.Prelude.{◌≡◌, ℕ, ◌+◌, true, false, nat_eq, IsTrue, Option, Some, None, List, [], ◌∷◌, ◌++◌, map, slice_set, if◌then◌else◌}
use Rattle.mv_base.specs.declared.number.NetId.{NetId}
use Rattle.mv_cover.specs.declared.cover.Cover.{Cover}
use Rattle.mv_net.specs.declared.change.NewNet.{NewNet}
use Rattle.mv_net.specs.declared.change.NewTable.{NewTable}
use Rattle.mv_net.specs.declared.change.NewCount.{NewCount}
use Rattle.mv_net.specs.declared.change.Change.{Change}
use Rattle.mv_net.specs.declared.parts.Kind.TheVariants.{Table}
use Rattle.mv_net.specs.declared.parts.FlatNet.{FlatNet}
use Rattle.mv_net.specs.declared.parts.NetParts.{NetParts}
use Rattle.mv_net.specs.Index.{is_held, HasName}
use Rattle.mv_graph.specs.Nets.{has_id, all_differ}

-- the table that is given to the net at a number, if one is
abbrev pub table_for : ℕ → List NewTable → Option Cover
table_for n [] = None
table_for n (t ∷ ts) = if nat_eq t.net.0 n then Some t.table else table_for n ts

-- the number of values that is given to it, if one is
abbrev pub count_for : ℕ → List NewCount → Option ℕ
count_for n [] = None
count_for n (c ∷ cs) = if nat_eq c.net.0 n then Some c.values else count_for n cs

-- a net with another table, if one is given
abbrev pub with_table : Option Cover → FlatNet → FlatNet
with_table None f = f
with_table (Some c) f = record f { table = Some c }

-- a net with another number of values, if one is given: they then have no names of their own
abbrev pub with_count : Option ℕ → FlatNet → FlatNet
with_count None f = f
with_count (Some k) f = record f { values = k; value_names = [] }

-- the net at a number behind the change; a number that isn't held stays so
abbrev pub changed_net : Change → ℕ → Option FlatNet → Option FlatNet
changed_net c n None = None
changed_net c n (Some f) = if has_id c.gone n then None
    else Some (with_count (count_for n c.values) (with_table (table_for n c.set) f))

-- the nets behind the change, of which the first has the number n
abbrev pub changed_from : Change → ℕ → List (Option FlatNet) → List (Option FlatNet)
changed_from c n [] = []
changed_from c n (f ∷ fs) = changed_net c n f ∷ changed_from c (n + 1) fs

-- a net that comes
abbrev pub made_net : NewNet → Option FlatNet
made_net m =
    Some (record {
      name = m.name;
      values = m.values;
      value_names = [];
      kind = Table;
      table = Some m.table;
    })

-- the network behind the change: new nets get the next numbers
unfoldable pub changed : NetParts → Change → NetParts
changed net c = record net { nets = changed_from c 0 net.nets ++ map made_net c.add }

-- the nets that get other tables, and those that get other numbers of values
abbrev pub nets_set : Change → List NetId
nets_set c = map (λ (t : NewTable). t.net) c.set

abbrev pub nets_counted : Change → List NetId
nets_counted c = map (λ (v : NewCount). v.net) c.values

-- each of these nets is held, and stands in the list once
pub record AreHeldOnce (nets : List (Option FlatNet)) (list : List NetId) : Type 0 where
  pub held : (n : ℕ) → has_id list n ≡ true → IsTrue (is_held nets n)
  pub once : all_differ list ≡ true

-- the change can be made where it stands: the nets that it names are held, each at most once in a
-- list, none that goes gets anything, and no net has the name of one that comes
pub record Fits (net : NetParts) (c : Change) : Type 0 where
  pub set : AreHeldOnce net.nets (nets_set c)
  pub values : AreHeldOnce net.nets (nets_counted c)
  pub gone : AreHeldOnce net.nets c.gone
  pub apart : (n : ℕ) → has_id c.gone n ≡ true
      → (has_id (nets_set c) n ≡ false) × (has_id (nets_counted c) n ≡ false)
  pub names : (k n : ℕ) (w : List ℕ) → HasName (map made_net c.add) k w → HasName net.nets n w → ⊥

-- the network with other nets
unfoldable pub with_nets : NetParts → List (Option FlatNet) → NetParts
with_nets net nets = record net { nets = nets }

-- the network without the net at a number, which isn't used again
abbrev pub without : NetParts → ℕ → NetParts
without net n = with_nets net (slice_set net.nets n None)

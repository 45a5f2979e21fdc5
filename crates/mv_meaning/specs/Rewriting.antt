-- What a network becomes where tables are rewritten, one net is given another table, or a net
-- comes; and how such nets compare with those that were there.
use Rattle.std.specs.Prelude.{◌≡◌, ◌⊎◌, ◌↔◌, ◌<◌, ◌≤◌, ℕ, true, false, if◌then◌else◌, is_some, Option, Some, None, List, [], map, slice_set}
use Rattle.mv_base.specs.Meaning.{Meaning, AllowsSome}
use Rattle.mv_base.specs.Names.{is_net_name}
use Rattle.mv_base.specs.declared.limits.TheConstants.{MAX_VALUES}
use Rattle.mv_cover.specs.declared.cover.Cover.{Cover}
use Rattle.mv_cover.specs.Covers.{allowed, cover_reads}
use Rattle.mv_cover.specs.Covering.{IsPoint}
use Rattle.mv_cover.specs.Plain.{AllowsOne}
use Rattle.mv_graph.specs.Above.{IsAbove}
use Rattle.mv_net.specs.declared.change.NewTable.{NewTable}
use Rattle.mv_net.specs.declared.parts.Kind.TheVariants.{Latch, Table, Reset}
use Rattle.mv_net.specs.declared.parts.FlatNet.{FlatNet}
use Rattle.mv_net.specs.Nets.{slot, values_in, name_in, table_in, reads_in}
use Rattle.mv_net.specs.Formed.{IsKind, IsCover}
use Rattle.mv_net.specs.Allowed.{net_allows}
use Rattle.mv_net.specs.Changes.{table_for}
use Rattle.mv_net.specs.Index.{kind_in, value_names_in, HasName}

-- ---- what is written

-- a table that reads n gives way to the new one that is made of it, any other stays
abbrev pub rewired_table : (Cover → Cover) → ℕ → Option Cover → Option Cover
rewired_table new n None = None
rewired_table new n (Some c) = Some (if cover_reads c n then new c else c)

-- the net with its table so
abbrev pub rewired : (Cover → Cover) → ℕ → Option FlatNet → Option FlatNet
rewired new n None = None
rewired new n (Some f) = Some (record f { table = rewired_table new n f.table })

-- the nets, of which each that reads n has the new table that is made of its own
unfoldable pub rewritten : (Cover → Cover) → ℕ → List (Option FlatNet) → List (Option FlatNet)
rewritten new n nets = map (rewired new n) nets

-- the net with this table
abbrev pub given_table : Cover → Option FlatNet → Option FlatNet
given_table c None = None
given_table c (Some f) = Some (record f { table = Some c })

-- the nets, of which the one at n, if it is held, has this table
unfoldable pub with_net_table : List (Option FlatNet) → ℕ → Cover → List (Option FlatNet)
with_net_table nets n c = slice_set nets n (given_table c (slot nets n))

-- ---- nets that differ in what stands in their tables alone

-- both are held or neither is, they have the same name, values, names of values and kind, and both
-- have a table or neither has
pub record IsAlike (f g : Option FlatNet) : Type 0 where
  pub kind : kind_in g ≡ kind_in f
  pub name : name_in g ≡ name_in f
  pub values : values_in g ≡ values_in f
  pub value_names : value_names_in g ≡ value_names_in f
  pub tabled : is_some (table_in g) ≡ is_some (table_in f)

-- at each number the new net is like the old one
pub record IsReformed (old new : List (Option FlatNet)) : Type 0 where
  pub each : (n : ℕ) → IsAlike (slot old n) (slot new n)

-- each table of the nets is a cover over these others, for the values of its net
pub record AreCovers (over nets : List (Option FlatNet)) : Type 0 where
  pub each : (n : ℕ) (c : Cover) → table_in (slot nets n) ≡ Some c
      → IsCover over (values_in (slot nets n)) c

-- what a new net reads is above it among the old ones
pub record ReadsAlong (old new : List (Option FlatNet)) : Type 0 where
  pub along : (n m : ℕ) → reads_in new n m ≡ true → IsAbove (reads_in old) m n

-- b looks like a, and allows the same under all values where a allows some choice
pub record SameWhereAllowed (b a : Meaning) : Type 0 where
  pub same : b.interface ≡ a.interface
  pub only : (i s o n r : List ℕ) → AllowsSome a i s → b.allows i s o n r → a.allows i s o n r
  pub all : (i s o n r : List ℕ) → a.allows i s o n r → b.allows i s o n r

-- each table above the net allows one value at most
pub record AllowOneAbove (nets : List (Option FlatNet)) (n : ℕ) : Type 0 where
  pub each : (m : ℕ) (c : Cover) → IsAbove (reads_in nets) m n → table_in (slot nets m) ≡ Some c
      → AllowsOne c

-- ---- readers

-- the net at m has this table, which reads n
pub record IsReader (nets : List (Option FlatNet)) (n m : ℕ) (c : Cover) : Type 0 where
  pub table : table_in (slot nets m) ≡ Some c
  pub reads : cover_reads c n ≡ true

-- at most one net reads n
pub record HasOneReader (nets : List (Option FlatNet)) (n : ℕ) : Type 0 where
  pub one : (m k : ℕ) → reads_in nets m n ≡ true → reads_in nets k n ≡ true → m ≡ k

-- the assignment agrees with each net that doesn't read n
pub record AgreesUnread (nets : List (Option FlatNet)) (n : ℕ) (at : ℕ → ℕ) : Type 0 where
  pub each : (m : ℕ) → reads_in nets m n ≡ false → net_allows (slot nets m) at (at m) ≡ true

-- the list gives each reader of n its new table, and no other net any
pub record SetsReaders (new : Cover → Cover) (n : ℕ) (nets : List (Option FlatNet))
    (list : List NewTable) : Type 0 where
  pub readers : (m : ℕ) (c : Cover) → IsReader nets n m c → table_for m list ≡ Some (new c)
  pub others : (m : ℕ) → reads_in nets m n ≡ false → table_for m list ≡ None

-- ---- one table

-- m is a net that the table reads, or above one
pub record IsOverTable (nets : List (Option FlatNet)) (c : Cover) (m : ℕ) : Type 0 where
  pub first : ℕ
  pub reads : cover_reads c first ≡ true
  pub up : (m ≡ first) ⊎ IsAbove (reads_in nets) m first

-- given to n, the table puts this latch output above this reset net
pub record PutsAbove (nets : List (Option FlatNet)) (n : ℕ) (c : Cover) (latch reset : ℕ)
    : Type 0 where
  pub output : IsKind nets latch Latch
  pub reset_net : IsKind nets reset Reset
  pub down : (reset ≡ n) ⊎ IsAbove (reads_in nets) n reset
  pub up : IsOverTable nets c latch

-- ---- a table in place of two

-- with some value of n that the table `inner` allows, and else the values that nets have, c allows
-- v
pub record AllowsThrough (inner : Cover) (n : ℕ) (c : Cover) (at : ℕ → ℕ) (v : ℕ) : Type 0 where
  pub given : ℕ → ℕ
  pub others : (m : ℕ) → (m ≡ n → ⊥) → given m ≡ at m
  pub between : allowed inner at (given n) ≡ true
  pub beyond : allowed c given v ≡ true

-- d doesn't read n, and allows at each point what c does with some value of n that the table
-- `inner` allows there
pub record JoinsTables (nets : List (Option FlatNet)) (inner : Cover) (n : ℕ) (c d : Cover)
    : Type 0 where
  pub unread : cover_reads d n ≡ false
  pub allows : (at : ℕ → ℕ) → IsPoint (map values_in nets) at → (v : ℕ)
      → (allowed d at v ≡ true) ↔ AllowsThrough inner n c at v

-- d is a cover over the nets, which doesn't read n, and no net that neither c nor `inner` reads
pub record IsJoinedCover (nets : List (Option FlatNet)) (values : ℕ) (inner : Cover) (n : ℕ)
    (c d : Cover) : Type 0 where
  pub cover : IsCover nets values d
  pub unread : cover_reads d n ≡ false
  pub reads : (m : ℕ) → cover_reads d m ≡ true
      → (cover_reads c m ≡ true) ⊎ (cover_reads inner m ≡ true)

-- ---- a net that comes

-- a net with a table, which can come: its values have no names of their own, its name is lawful and
-- no net has it, and its table is a cover over the nets
pub record IsNewNet (nets : List (Option FlatNet)) (f : FlatNet) : Type 0 where
  pub kind : f.kind ≡ Table
  pub some : 0 < f.values
  pub few : f.values ≤ MAX_VALUES
  pub value_names : f.value_names ≡ []
  pub name : is_net_name f.name ≡ true
  pub fresh : (n : ℕ) → HasName nets n f.name → ⊥
  pub cover : Cover
  pub table : f.table ≡ Some cover
  pub covers : IsCover nets f.values cover

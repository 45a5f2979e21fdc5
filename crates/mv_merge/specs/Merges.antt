-- What the command `merge` does to a network.
use Rattle.std.specs.Prelude.{◌≡◌, ℕ, ◌<◌, Bool, true, Option, List, is_some}
use Rattle.mv_alike.specs.declared.next.NextMerge.{NextMerge}
use Rattle.mv_alike.specs.Merges.{IsNextMerge}
use Rattle.mv_base.specs.declared.number.Value.{Value}
use Rattle.mv_entry.specs.declared.rule.Rule.TheVariants.{Merge}
use Rattle.mv_entry.specs.Entries.{Entry, Applied}
use Rattle.mv_merging.specs.Verdicts.{AreMergeable, IsMergeLossless}
use Rattle.mv_net.specs.declared.parts.NetParts.{NetParts}
use Rattle.mv_net.specs.Nets.{slot, name_in, values_in, table_in}
use Rattle.mv_pass.specs.Courses.{Course, Until}
use Rattle.mv_pass.specs.Going.{Goes}
use Rattle.mv_plans.specs.Checks.{IsUnseen}

-- nobody outside sees the net, it has a table, and of its values, more than one, this one may go,
-- into the other if there is one
pub record CanMerge (net : NetParts) (n : ℕ) : Type 0 where
  pub unseen : IsUnseen net n
  pub table : is_some (table_in (slot net.nets n)) ≡ true
  pub gone : Value
  pub into : Option Value
  pub able : AreMergeable (values_in (slot net.nets n)) gone into
  pub lossless : IsMergeLossless net.nets n gone into

-- no values of any net may be merged
pub record IsMerged (net : NetParts) : Type 0 where
  pub none : (n : ℕ) → CanMerge net n → ⊥

-- nobody outside sees the net, and this merge of its values comes first
pub record IsFirstMerge (net : NetParts) (n : ℕ) (next : NextMerge) : Type 0 where
  pub unseen : IsUnseen net n
  pub first : IsNextMerge net.nets n next

-- the net at n is the least-numbered of which values may be merged, and this merge of them comes
-- first
pub record IsLeastMerge (net : NetParts) (n : ℕ) (next : NextMerge) : Type 0 where
  pub merge : IsFirstMerge net n next
  pub least : (m : ℕ) → m < n → CanMerge net m → ⊥

-- it has this name
pub record MergesLeast (net : NetParts) (name : List ℕ) (next : NextMerge) : Type 0 where
  pub number : ℕ
  pub first : IsLeastMerge net number next
  pub named : name_in (slot net.nets number) ≡ name

-- the steps of `merge`: the merge that comes first at the least-numbered net that has one
abbrev pub IsMergeStep : NetParts → Entry → Type 0
IsMergeStep net (Applied (Merge name gone into)) =
    MergesLeast net name (record { gone = gone; into = into })
IsMergeStep net _ = ⊥

-- some steps of `merge`
abbrev pub MergesSome : Bool → Course
MergesSome free = Goes free IsMergeStep

-- all of `merge`: steps until no values of a net that nobody outside sees may be merged
abbrev pub MergesAll : Bool → Course
MergesAll free = Until (MergesSome free) IsMerged

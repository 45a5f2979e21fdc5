-- On the way through a `fill`: nets with a varied table above them, and what was done so far. For
-- private functions.
use Rattle.std.specs.Prelude.{◌≡◌, ℕ, ◌<◌, ◌+◌, Bool, true, is_some, Option, List, length, take, MatchBool}
use Rattle.mv_base.specs.declared.number.NetId.{NetId}
use Rattle.mv_entry.specs.Entries.{Entry}
use Rattle.mv_graph.specs.Marks.{is_marked}
use Rattle.mv_graph.specs.Nets.{has_id}
use Rattle.mv_net.specs.declared.parts.FlatNet.{FlatNet}
use Rattle.mv_net.specs.declared.parts.NetParts.{NetParts}
use Rattle.mv_net.specs.Index.{is_held}
use Rattle.mv_net.specs.Nets.{slot, table_in}
use Rattle.mv_net.specs.Plain.{IsPlainNet}
use Rattle.mv_pass.specs.Courses.{Visits}
use Rattle.mv_plans.specs.Filling.{ArePlainAbove}
use Rattle.mv_fill.specs.Fills.{FillsNet, IsUnfilled, IsNoted}

-- the net's table, if it has one, is plainly deterministic
abbrev pub IsPlainTable : List (Option FlatNet) → ℕ → Type 0
IsPlainTable nets m = is_some (table_in (slot nets m)) ≡ true → IsPlainNet nets m

-- the net's table and those above it are plainly deterministic
pub record IsPlainTo (nets : List (Option FlatNet)) (m : ℕ) : Type 0 where
  pub here : IsPlainTable nets m
  pub above : ArePlainAbove nets m

-- whether a table above the net isn't plainly deterministic
abbrev pub IsVariedMark : List (Option FlatNet) → ℕ → Bool → Type 0
IsVariedMark nets n mark = MatchBool mark (ArePlainAbove nets n → ⊥) (ArePlainAbove nets n)

-- so the nets of this list are marked
pub record AreMarked (nets : List (Option FlatNet)) (list : List NetId) (marks : List Bool)
    : Type 0 where
  pub long : length marks ≡ length nets
  pub each : (n : ℕ) → has_id list n ≡ true → IsVariedMark nets n (is_marked marks n)

-- so all nets are marked
pub record HasMarks (nets : List (Option FlatNet)) (marks : List Bool) : Type 0 where
  pub each : (n : ℕ) → is_held nets n ≡ true → IsVariedMark nets n (is_marked marks n)

-- the tables above a net are plainly deterministic in the one network where they are in the other,
-- and all nets are still held
pub record KeepsPlain (old new : List (Option FlatNet)) : Type 0 where
  pub held : (n : ℕ) → is_held new n ≡ true → is_held old n ≡ true
  pub down : (n : ℕ) → ArePlainAbove new n → ArePlainAbove old n
  pub up : (n : ℕ) → ArePlainAbove old n → ArePlainAbove new n

-- the nets below this number are visited, and each of them whose table allows nothing somewhere is
-- noted
pub record HasFilled (free : Bool) (end : ℕ) (old : NetParts) (steps : List Entry) (new : NetParts)
    : Type 0 where
  pub visits : Visits (FillsNet free) end old steps new
  pub long : length new.nets ≡ length old.nets
  pub noted : (n : ℕ) → n < end → IsUnfilled new.nets n → IsNoted new n steps

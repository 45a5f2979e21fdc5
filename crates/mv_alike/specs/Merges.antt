-- Which merge of values comes first at a net.
use Rattle.std.specs.Prelude.{◌≡◌, ℕ, ◌<◌, ◌≤◌, true, Option, Some, None, List, is_some}
use Rattle.mv_base.specs.declared.number.Value.{Value}
use Rattle.mv_net.specs.declared.parts.FlatNet.{FlatNet}
use Rattle.mv_net.specs.Nets.{slot, values_in, table_in}
use Rattle.mv_alike.specs.declared.next.NextMerge.{NextMerge}
use Rattle.mv_merging.specs.Verdicts.{AreAlike, AreMergeable, IsMergeLossless, IsNeverGiven}

-- v is the least of the net's values that its table never gives
pub record IsLeastNeverGiven (nets : List (Option FlatNet)) (n v : ℕ) : Type 0 where
  pub low : v < values_in (slot nets n)
  pub never : IsNeverGiven nets n v
  pub least : (u : ℕ) → u < v → IsNeverGiven nets n u → ⊥

-- the net's table gives each of its values
pub record GivesEach (nets : List (Option FlatNet)) (n : ℕ) : Type 0 where
  pub each : (v : ℕ) → v < values_in (slot nets n) → IsNeverGiven nets n v → ⊥

-- two values of the net, the lesser first, that no table tells apart
pub record AreAlikeInOrder (nets : List (Option FlatNet)) (n v w : ℕ) : Type 0 where
  pub ordered : v < w
  pub low : w < values_in (slot nets n)
  pub alike : AreAlike nets n v w

-- they are the first two: none has a lesser first value, and none with this one a lesser second
pub record AreFirstAlike (nets : List (Option FlatNet)) (n v w : ℕ) : Type 0 where
  pub are : AreAlikeInOrder nets n v w
  pub first : (u x : ℕ) → AreAlikeInOrder nets n u x → v ≤ u
  pub second : (x : ℕ) → AreAlikeInOrder nets n v x → w ≤ x

-- what goes into none is the least value that is never given; where each is given, the greater of
-- the first two alike goes into the lesser
abbrev pub GoesFirst : List (Option FlatNet) → ℕ → Value → Option Value → Type 0
GoesFirst nets n gone None = IsLeastNeverGiven nets n gone.0
GoesFirst nets n gone (Some into) = GivesEach nets n × AreFirstAlike nets n into.0 gone.0

-- the net has a table and several values, and this merge of them comes first
pub record IsNextMerge (nets : List (Option FlatNet)) (n : ℕ) (next : NextMerge) : Type 0 where
  pub table : is_some (table_in (slot nets n)) ≡ true
  pub several : 1 < values_in (slot nets n)
  pub first : GoesFirst nets n next.gone next.into

-- no values of the net may be merged, if it has a table
pub record HasNoMerge (nets : List (Option FlatNet)) (n : ℕ) : Type 0 where
  pub none : is_some (table_in (slot nets n)) ≡ true → (gone : Value) (into : Option Value)
      → AreMergeable (values_in (slot nets n)) gone into → IsMergeLossless nets n gone into → ⊥

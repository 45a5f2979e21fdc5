-- Which values of a net may be merged.
use Rattle.std.specs.Prelude.{◌≡◌, ℕ, ◌<◌, Bool, false, ◌&&◌, ◌||◌, not, nat_eq, Option, Some, None, List}
use Rattle.std.specs.List.{list_any}
use Rattle.mv_base.specs.Set.{has}
use Rattle.mv_base.specs.declared.number.Value.{Value}
use Rattle.mv_cover.specs.Covers.{default_gives}
use Rattle.mv_cover.specs.Literal.{Lit}
use Rattle.mv_cover.specs.declared.cover.Cover.{Cover}
use Rattle.mv_cover.specs.declared.line.Line.{Line}
use Rattle.mv_net.specs.declared.parts.FlatNet.{FlatNet}
use Rattle.mv_net.specs.declared.parts.NetParts.{NetParts}
use Rattle.mv_net.specs.Nets.{slot, values_in, table_in}
use Rattle.mv_merging.specs.declared.verdict.MergeVerdict.{MergeVerdict}
use Rattle.mv_merging.specs.declared.verdict.MergeVerdict.TheVariants.{Form, NotSame, Lawful}

-- the value that is to take another's place, if there is one, is one of so many, and another
abbrev pub IsOther : ℕ → Value → Option Value → Type 0
IsOther values gone None = Unit {0}
IsOther values gone (Some into) = (into.0 < values) × (into.0 ≡ gone.0 → ⊥)

-- of so many values, more than one, the one can go, into the other if there is one
pub record AreMergeable (values : ℕ) (gone : Value) (into : Option Value) : Type 0 where
  pub several : 1 < values
  pub low : gone.0 < values
  pub other : IsOther values gone into

-- the set has just one of the two values
abbrev pub splits : ℕ → ℕ → ℕ → Bool
splits u v set = (has set u && not (has set v)) || (not (has set u) && has set v)

-- the literal is on the net and has just one of the two values
abbrev pub literal_splits : ℕ → ℕ → ℕ → Lit → Bool
literal_splits n u v l = nat_eq l.net.0 n && splits u v l.set

-- some literal of the cover is so
abbrev pub cover_splits : ℕ → ℕ → ℕ → Cover → Bool
cover_splits n u v c = list_any (λ (l : Line). list_any (literal_splits n u v) l.cube) c.lines

-- no table tells the two values of the net apart
pub record AreAlike (nets : List (Option FlatNet)) (n u v : ℕ) : Type 0 where
  pub each : (m : ℕ) (c : Cover) → table_in (slot nets m) ≡ Some c → cover_splits n u v c ≡ false

-- the value stands in an output of the cover or in its default
abbrev pub cover_has : ℕ → Cover → Bool
cover_has v c = list_any (λ (l : Line). has l.out v) c.lines || default_gives c.default v

-- the net's table never gives the value
pub record IsNeverGiven (nets : List (Option FlatNet)) (n v : ℕ) : Type 0 where
  pub each : (c : Cover) → table_in (slot nets n) ≡ Some c → cover_has v c ≡ false

-- nothing is lost where the one value goes: no table tells it from the one that takes its place, or
-- the net never has it
abbrev pub IsMergeLossless : List (Option FlatNet) → ℕ → Value → Option Value → Type 0
IsMergeLossless nets n gone None = IsNeverGiven nets n gone.0
IsMergeLossless nets n gone (Some into) = AreAlike nets n into.0 gone.0

-- the first that holds: the values can't be merged by their form; something would be lost; or none
-- of that
abbrev pub IsMergeVerdict : NetParts → ℕ → Value → Option Value → MergeVerdict → Type 0
IsMergeVerdict net n gone into Form = AreMergeable (values_in (slot net.nets n)) gone into → ⊥
IsMergeVerdict net n gone into NotSame =
    AreMergeable (values_in (slot net.nets n)) gone into
    × (IsMergeLossless net.nets n gone into → ⊥)
IsMergeVerdict net n gone into Lawful = AreMergeable (values_in (slot net.nets n)) gone into
    × IsMergeLossless net.nets n gone into

-- ---- what private functions alone cite

-- the same of a table, if there is one
abbrev pub table_has : ℕ → Option Cover → Bool
table_has v None = false
table_has v (Some c) = cover_has v c

abbrev pub table_splits : ℕ → ℕ → ℕ → Option Cover → Bool
table_splits n u v None = false
table_splits n u v (Some c) = cover_splits n u v c

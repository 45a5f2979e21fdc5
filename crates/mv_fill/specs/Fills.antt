-- What the command `fill` does to a network: it visits each net, and gives a table that allows
-- nothing somewhere the default 0.
use Rattle.std.specs.Prelude.{◌≡◌, ℕ, ◌≤◌, Bool, true, false, is_some, Option, List, [], ◌∷◌, length, Contains}
use Rattle.mv_base.specs.Set.{one}
use Rattle.mv_entry.specs.declared.note.Note.TheVariants.{Dropped}
use Rattle.mv_entry.specs.declared.note.Why.{Why}
use Rattle.mv_entry.specs.declared.note.Why.TheVariants.{Strict, Varied}
use Rattle.mv_entry.specs.declared.rule.Rule.{Rule}
use Rattle.mv_entry.specs.declared.rule.Rule.TheVariants.{Fill}
use Rattle.mv_entry.specs.Entries.{Entry, Applied, Noted}
use Rattle.mv_net.specs.declared.parts.FlatNet.{FlatNet}
use Rattle.mv_net.specs.declared.parts.NetParts.{NetParts}
use Rattle.mv_net.specs.Nets.{slot, name_in, table_in}
use Rattle.mv_pass.specs.Courses.{Course, Nothing, VisitsSome}
use Rattle.mv_rules.specs.Applies.{Applies}
use Rattle.mv_plans.specs.Filling.{IsPartial, ArePlainAbove}

-- the net has a table, which allows nothing somewhere
pub record IsUnfilled (nets : List (Option FlatNet)) (n : ℕ) : Type 0 where
  pub tabled : is_some (table_in (slot nets n)) ≡ true
  pub partial : IsPartial nets n

-- why such a net stays: nothing is free, or else some table above it isn't plainly deterministic
abbrev pub StaysFor : Bool → NetParts → ℕ → Why → Type 0
StaysFor free net n Strict = free ≡ false
StaysFor free net n Varied = (free ≡ true) × (ArePlainAbove net.nets n → ⊥)
StaysFor free net n _ = ⊥

-- the note why the net n stays
abbrev pub note_of : NetParts → ℕ → Why → Entry
note_of net n why = Noted (Dropped why (name_in (slot net.nets n)))

-- the rule by which the table of the net n gets the value 0 as its default
abbrev pub rule_of : NetParts → ℕ → Rule
rule_of net n = Fill (name_in (slot net.nets n)) (one 0)

-- a visit of the net n: it has no table that allows nothing somewhere, and is let be; or it has
-- one, and it is noted why it stays; or that table gets the default
pub data FillsNet (free : Bool) (n : ℕ) (old : NetParts) (entries : List Entry) (new : NetParts)
    : Type 0 where
  LetBe : (IsUnfilled old.nets n → ⊥) → Nothing old entries new → FillsNet free n old entries new
  Stays : (why : Why) → IsUnfilled old.nets n → StaysFor free old n why
      → entries ≡ note_of old n why ∷ [] → new ≡ old → FillsNet free n old entries new
  Filled : IsUnfilled old.nets n → Applies free (rule_of old n) old new
      → entries ≡ Applied (rule_of old n) ∷ [] → FillsNet free n old entries new

-- some of `fill`: the first so many nets are visited, each in turn
abbrev pub FillsTables : Bool → Course
FillsTables free = VisitsSome (FillsNet free)

-- it is noted among the steps why the net n stays
pub record IsNoted (net : NetParts) (n : ℕ) (steps : List Entry) : Type 0 where
  pub why : Why
  pub noted : Contains steps (note_of net n why)

-- all of `fill`: nets are visited, after which each table but those that are noted allows something
-- everywhere
pub record FillsAll (free : Bool) (old : NetParts) (steps : List Entry) (new : NetParts)
    : Type 0 where
  pub tables : FillsTables free old steps new
  pub noted : (n : ℕ) → IsUnfilled new.nets n → IsNoted new n steps

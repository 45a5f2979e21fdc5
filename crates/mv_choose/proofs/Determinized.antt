-- The course of `determinize`: what its visits come to, and that their rules apply in turn.
use Rattle.std.proofs.Common.{◌≡◌, ◌∙◌, ◌⊎◌, ℕ, Bool, true, List, [], Some, is_some, map, Result, refl, sym, subst}
use Rattle.std.proofs.lemmas.Option.{same_Some}
use Rattle.mv_choose.specs.Choices.{DeterminizesSome, Determinizing, GivesDetermined, IsVaried, NotesVaried}
use Rattle.mv_cover.specs.Plain.{IsPlainlyDeterministic}
use Rattle.mv_cover.specs.declared.cover.Cover.{Cover}
use Rattle.mv_determine.specs.Determined.{IsTooLong, determined_of}
use Rattle.mv_entry.specs.declared.note.Why.{Why}
use Rattle.mv_entry.specs.declared.note.Why.TheVariants.{Lines, Partial, Window as IsWide}
use Rattle.mv_entry.specs.Entries.{Entry, rules_of}
use Rattle.mv_entry.specs.Tallies.{Journaled}
use Rattle.mv_meaning.specs.Narrowing.{AreTotalBelow}
use Rattle.mv_net.specs.declared.parts.NetParts.{NetParts}
use Rattle.mv_net.specs.Nets.{slot, table_in, values_in}
use Rattle.mv_net.specs.Plain.{IsPlainNet}
use Rattle.mv_pass.specs.declared.stop.Stop.{Stop}
use Rattle.mv_pass.specs.Courses.{Perhaps}
use Rattle.mv_pass.specs.Passing.{Passes}
use Rattle.mv_rules.specs.Replaying.{Replays}
use Rattle.mv_visit.specs.Visits.{Cannot, Does, GivesWay, IsLet, IsNoted, MayLessen, StaysFor, Treats}
use Rattle.mv_visit.proofs.Tabled.{has_cover}
use Rattle.mv_visit.proofs.Visited.{some_replays, step_as}

-- a note with a reason
pub noted_so : (free : Bool) (net : NetParts) (n : ℕ) → is_some (table_in (slot net.nets n)) ≡ true → (why : Why) (j k : Journaled) (result : Result (Unit {0}) Stop)
    → ((table : Cover) → table_in (slot net.nets n) ≡ Some table → NotesVaried net n table why)
    → Passes free (IsNoted n why) (Perhaps (IsNoted n why)) net net j k result → Passes free (Treats Determinizing n) (Perhaps (Treats Determinizing n)) net net j k result
noted_so free net n tabled why j k result notes p =
    let t = has_cover net.nets n tabled in
    step_as free (IsNoted n why) (Treats Determinizing n) net net j k result (λ es noted. StaysFor why t.cover t.is (notes t.cover t.is) noted) p

-- a table that is plainly deterministic is let be
pub lets_be : (net : NetParts) (n : ℕ) → IsPlainNet net.nets n → Treats Determinizing n net [] net
lets_be net n p = IsLet p.cover p.table p.plain (refl, refl)

module _ (net : NetParts) (n : ℕ) (table : Cover) (is : table_in (slot net.nets n) ≡ Some table) where
  -- the net's table is this one
  varies : (IsPlainNet net.nets n → ⊥) → IsPlainlyDeterministic table → ⊥
  varies none plain = none (record { cover = table; table = is; plain = plain })

  pub partial : (IsPlainNet net.nets n → ⊥) → (AreTotalBelow net.nets n → ⊥) → NotesVaried net n table Partial
  partial none lacks = (varies none, lacks)

  pub varied : (IsPlainNet net.nets n → ⊥) → AreTotalBelow net.nets n → IsVaried net n table
  varied none below = record { varies = varies none; below = below }

  -- what becomes of it
  pub may_determine : (less : Cover) → GivesDetermined net n table less → (free : Bool) (after : NetParts) (j k : Journaled) (result : Result (Unit {0}) Stop)
      → Passes free (MayLessen n less) (Perhaps (MayLessen n less)) net after j k result → Passes free (Treats Determinizing n) (Perhaps (Treats Determinizing n)) net after j k result
  may_determine less gives free after j k result p = step_as free (MayLessen n less) (Treats Determinizing n) net after j k result by p
    where
      by : (es : List Entry) → MayLessen n less net es after → Treats Determinizing n net es after
      by es (Cannot wide) = StaysFor IsWide table is (gives.varied, gives.short, wide.window) wide.noted
      by es (Does lessens) = GivesWay table less is gives lessens

-- the rules of some visits
pub determinizes_replay : (free : Bool) (a b : NetParts) (es : List Entry) → DeterminizesSome a es b → Replays free (rules_of es) a b
determinizes_replay free a b es v = some_replays Determinizing free a b es v

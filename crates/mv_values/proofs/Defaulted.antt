-- The course of `default`: what its visits come to, and that it leaves no more literals than there were.
use Rattle.std.proofs.Common.{◌≡◌, ◌∙◌, ◌⊎◌, ℕ, ◌<◌, ◌≤◌, Bool, true, false, List, [], Option, Some, None, is_some, Result, Ok, Err, inl, inr, refl, sym, ap, subst, arith}
use Rattle.std.specs.Prelude.{MatchBool}
use Rattle.std.proofs.lemmas.Option.{same_Some}
use Rattle.mv_cover.specs.Covers.{literal_count}
use Rattle.mv_cover.specs.Plain.{IsPlainlyDeterministic}
use Rattle.mv_cover.specs.declared.cover.Cover.{Cover}
use Rattle.mv_default.specs.Taken.{IsDefaulted, TakesDefault}
use Rattle.mv_default.proofs.Taken.{fewer_literals}
use Rattle.mv_entry.specs.declared.note.Why.{Why}
use Rattle.mv_entry.specs.declared.note.Why.TheVariants.{Partial, Varied, Window as IsWide}
use Rattle.mv_entry.specs.Entries.{Entry, rules_of}
use Rattle.mv_entry.specs.Tallies.{Journaled}
use Rattle.mv_meaning.specs.Narrowing.{AreTotalBelow}
use Rattle.mv_net.specs.declared.parts.NetParts.{NetParts}
use Rattle.mv_net.specs.Formed.{WellFormed}
use Rattle.mv_net.specs.Nets.{slot, table_in, literals_in}
use Rattle.mv_net.specs.Plain.{IsPlainNet}
use Rattle.mv_net.specs.Total.{IsTotalNet}
use Rattle.mv_pass.specs.declared.stop.Stop.{Stop}
use Rattle.mv_pass.specs.Courses.{Perhaps}
use Rattle.mv_pass.specs.Passing.{Passes}
use Rattle.mv_rules.specs.Replaying.{Replays}
use Rattle.mv_values.specs.Defaults.{CanDefault, DefaultsSome, Defaulting, GivesDefault, IsDefaultWorth, IsPlain, NotesDefault}
use Rattle.mv_visit.specs.Visits.{Cannot, Does, GivesWay, IsLet, IsNoted, MayLessen, StaysFor, Treats}
use Rattle.mv_visit.proofs.Tabled.{HasCover, has_cover}
use Rattle.mv_visit.proofs.Visited.{GivesFewer, some_no_more, some_replays, step_as}

-- ---- notes

module _ (free : Bool) (net : NetParts) (n : ℕ) (tabled : is_some (table_in (slot net.nets n)) ≡ true) where
  -- a note with a reason
  pub noted_so : (why : Why) (j k : Journaled) (result : Result (Unit {0}) Stop) → ((table : Cover) → table_in (slot net.nets n) ≡ Some table → NotesDefault net n table why)
      → Passes free (IsNoted n why) (Perhaps (IsNoted n why)) net net j k result → Passes free (Treats Defaulting n) (Perhaps (Treats Defaulting n)) net net j k result
  noted_so why j k result notes p =
      let t = has_cover net.nets n tabled in
      step_as free (IsNoted n why) (Treats Defaulting n) net net j k result (λ es noted. StaysFor why t.cover t.is (notes t.cover t.is) noted) p

  -- a table that has a default is let be
  pub has_one : ((table : Cover) → table_in (slot net.nets n) ≡ Some table → table.default ≡ None → ⊥) → Treats Defaulting n net [] net
  has_one has = let t = has_cover net.nets n tabled in IsLet t.cover t.is (inl (has t.cover t.is)) (refl, refl)

  -- and one where no line has a literal
  pub spares : (made : Option Cover) → made ≡ None → ((table : Cover) → table_in (slot net.nets n) ≡ Some table → CanDefault net n table)
      → ((table : Cover) → table_in (slot net.nets n) ≡ Some table → IsDefaulted table made) → Treats Defaulting n net [] net
  spares made none can told =
      let t = has_cover net.nets n tabled in
      let empty : literal_count t.cover.lines ≡ 0 = subst (IsDefaulted t.cover) none (told t.cover t.is) in
      IsLet t.cover t.is (inr (can t.cover t.is, empty)) (refl, refl)

-- ---- reasons

module _ (net : NetParts) (n : ℕ) (table : Cover) (is : table_in (slot net.nets n) ≡ Some table) where
  -- the net's table is this one
  plain_here : IsPlainNet net.nets n → IsPlainlyDeterministic table
  plain_here p = subst IsPlainlyDeterministic (same_Some p.cover table (sym p.table ∙ is)) p.plain

  pub varied : table.default ≡ None → (IsPlainNet net.nets n → ⊥) → NotesDefault net n table Varied
  varied none varies = (none, λ plain. varies (record { cover = table; table = is; plain = plain }))

  pub partial : table.default ≡ None → IsPlainNet net.nets n → (IsTotalNet net.nets n → ⊥) → NotesDefault net n table Partial
  partial none plain lacks = inl (record { open_ended = none; plain = plain_here plain }, lacks)

  pub can_default : table.default ≡ None → IsPlainNet net.nets n → IsTotalNet net.nets n → CanDefault net n table
  can_default none plain total = record { plain = record { open_ended = none; plain = plain_here plain }; total = total }

  module _ (made : Option Cover) (less : Cover) (some : made ≡ Some less) (can : CanDefault net n table) (told : IsDefaulted table made) where
    takes : TakesDefault table less
    takes = subst (IsDefaulted table) some told

    pub gives : GivesDefault net n table less
    gives = record { can = can; takes = takes }

    worth : IsDefaultWorth net n table
    worth = record { can = can; literal = takes.literal }

    pub above_partial : (AreTotalBelow net.nets n → ⊥) → NotesDefault net n table Partial
    above_partial lacks = inr (worth, lacks)

    -- what becomes of it
    pub may_default : AreTotalBelow net.nets n → (free : Bool) (after : NetParts) (j k : Journaled) (result : Result (Unit {0}) Stop) → Passes free (MayLessen n less) (Perhaps (MayLessen n less)) net after j k result
        → Passes free (Treats Defaulting n) (Perhaps (Treats Defaulting n)) net after j k result
    may_default below free after j k result p = step_as free (MayLessen n less) (Treats Defaulting n) net after j k result by p
      where
        by : (es : List Entry) → MayLessen n less net es after → Treats Defaulting n net es after
        by es (Cannot wide) = StaysFor IsWide table is (worth, (below, wide.window)) wide.noted
        by es (Does lessens) = GivesWay table less is gives lessens

-- ---- literals

pub defaults_fewer : GivesFewer Defaulting
defaults_fewer = record { each = λ net n table less gives. fewer_literals table less gives.takes }

pub defaults_replay : (free : Bool) (a b : NetParts) (es : List Entry) → DefaultsSome a es b → Replays free (rules_of es) a b
defaults_replay free a b es v = some_replays Defaulting free a b es v

pub defaults_no_more : (a b : NetParts) (es : List Entry) → WellFormed a → DefaultsSome a es b → literals_in b.nets ≤ literals_in a.nets
defaults_no_more a b es formed v = some_no_more Defaulting defaults_fewer a b es formed v

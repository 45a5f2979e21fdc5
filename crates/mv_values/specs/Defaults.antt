-- What the command `default` does to a network: it visits each net, and gives its table a default
-- that saves literals.
use Rattle.std.specs.Prelude.{◌≡◌, ◌⊎◌, ℕ, ◌<◌, Option, Some, None}
use Rattle.mv_cover.specs.declared.cover.Cover.{Cover}
use Rattle.mv_cover.specs.Covers.{literal_count}
use Rattle.mv_cover.specs.Plain.{IsPlainlyDeterministic}
use Rattle.mv_default.specs.Taken.{TakesDefault}
use Rattle.mv_entry.specs.declared.note.Why.{Why}
use Rattle.mv_entry.specs.declared.note.Why.TheVariants.{Partial, Varied, Window as IsWide}
use Rattle.mv_flex.specs.Flex.{TooWide}
use Rattle.mv_meaning.specs.Narrowing.{AreTotalBelow}
use Rattle.mv_narrow.specs.Verdicts.{HasWindow}
use Rattle.mv_net.specs.declared.parts.NetParts.{NetParts}
use Rattle.mv_net.specs.Total.{IsTotalNet}
use Rattle.mv_pass.specs.Courses.{Course, VisitsAll, VisitsSome}
use Rattle.mv_visit.specs.Visits.{Treatment, Treats}

-- the table has no default, and is plainly deterministic
pub record IsPlain (table : Cover) : Type 0 where
  pub open_ended : table.default ≡ None
  pub plain : IsPlainlyDeterministic table

-- so is the table of the net n, and it is total
pub record CanDefault (net : NetParts) (n : ℕ) (table : Cover) : Type 0 where
  pub plain : IsPlain table
  pub total : IsTotalNet net.nets n

-- so it is, and some line has a literal
pub record IsDefaultWorth (net : NetParts) (n : ℕ) (table : Cover) : Type 0 where
  pub can : CanDefault net n table
  pub literal : 0 < literal_count table.lines

-- why it is noted that the table of the net n stays. It has no default, and isn't plainly
-- deterministic; or it is, and isn't total; or it could take a default that saves literals, but a
-- table below the net isn't total; or the net's own window is too wide
abbrev pub NotesDefault : NetParts → ℕ → Cover → Why → Type 0
NotesDefault net n table Varied = (table.default ≡ None) × (IsPlainlyDeterministic table → ⊥)
NotesDefault net n table Partial =
    (IsPlain table × (IsTotalNet net.nets n → ⊥))
    ⊎ (IsDefaultWorth net n table × (AreTotalBelow net.nets n → ⊥))
NotesDefault net n table IsWide =
    IsDefaultWorth net n table × (AreTotalBelow net.nets n × HasWindow net n 0 0 (TooWide net))
NotesDefault net n table _ = ⊥

-- when it is let be: it has a default, or could take one, but no line has a literal
abbrev pub LetsDefaultBe : NetParts → ℕ → Cover → Type 0
LetsDefaultBe net n table = (table.default ≡ None → ⊥)
    ⊎ (CanDefault net n table × (literal_count table.lines ≡ 0))

-- what it gives way to: the table with the default taken
pub record GivesDefault (net : NetParts) (n : ℕ) (table less : Cover) : Type 0 where
  pub can : CanDefault net n table
  pub takes : TakesDefault table less

-- how `default` treats a table
abbrev pub Defaulting : Treatment
Defaulting = record { Notes = NotesDefault; LetsBe = LetsDefaultBe; Gives = GivesDefault }

-- all of `default`: each net is visited in turn
abbrev pub DefaultsAll : Course
DefaultsAll = VisitsAll (Treats Defaulting)

-- some of `default`: the first so many nets are
abbrev pub DefaultsSome : Course
DefaultsSome = VisitsSome (Treats Defaulting)

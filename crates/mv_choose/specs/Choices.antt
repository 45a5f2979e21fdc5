-- What the command `determinize` does to a network: it visits each net, and a table that isn't
-- plainly deterministic gives way to one that is.
use Rattle.std.specs.Prelude.{◌≡◌, ℕ, map}
use Rattle.mv_cover.specs.declared.cover.Cover.{Cover}
use Rattle.mv_cover.specs.Plain.{IsPlainlyDeterministic}
use Rattle.mv_determine.specs.Determined.{IsTooLong, determined_of}
use Rattle.mv_entry.specs.declared.note.Why.{Why}
use Rattle.mv_entry.specs.declared.note.Why.TheVariants.{Lines, Partial, Window as IsWide}
use Rattle.mv_flex.specs.Flex.{TooWide}
use Rattle.mv_meaning.specs.Narrowing.{AreTotalBelow}
use Rattle.mv_narrow.specs.Verdicts.{HasWindow}
use Rattle.mv_net.specs.declared.parts.NetParts.{NetParts}
use Rattle.mv_net.specs.Nets.{values_in}
use Rattle.mv_pass.specs.Courses.{Course, VisitsAll, VisitsSome}
use Rattle.mv_visit.specs.Visits.{Treatment, Treats}

-- the table isn't plainly deterministic, and each table below the net n is total
pub record IsVaried (net : NetParts) (n : ℕ) (table : Cover) : Type 0 where
  pub varies : IsPlainlyDeterministic table → ⊥
  pub below : AreTotalBelow net.nets n

-- why it is noted that the table of the net n stays, which isn't plainly deterministic: a table
-- below the net isn't total; or none is so, and too many lines would come of it; or not too many
-- would, and the net's own window is too wide
abbrev pub NotesVaried : NetParts → ℕ → Cover → Why → Type 0
NotesVaried net n table Partial = (IsPlainlyDeterministic table → ⊥)
    × (AreTotalBelow net.nets n → ⊥)
NotesVaried net n table Lines = IsVaried net n table × IsTooLong (map values_in net.nets) table
NotesVaried net n table IsWide =
    IsVaried net n table × (IsTooLong (map values_in net.nets) table → ⊥)
    × HasWindow net n 0 0 (TooWide net)
NotesVaried net n table _ = ⊥

-- when it is let be: it is plainly deterministic
abbrev pub LetsPlainBe : NetParts → ℕ → Cover → Type 0
LetsPlainBe net n table = IsPlainlyDeterministic table

-- what it gives way to: the table that it is made into, where not too many lines come of it
pub record GivesDetermined (net : NetParts) (n : ℕ) (table less : Cover) : Type 0 where
  pub varied : IsVaried net n table
  pub short : IsTooLong (map values_in net.nets) table → ⊥
  pub is : less ≡ determined_of (map values_in net.nets) table

-- how `determinize` treats a table
abbrev pub Determinizing : Treatment
Determinizing = record { Notes = NotesVaried; LetsBe = LetsPlainBe; Gives = GivesDetermined }

-- all of `determinize`: each net is visited in turn
abbrev pub DeterminizesAll : Course
DeterminizesAll = VisitsAll (Treats Determinizing)

-- some of `determinize`: the first so many nets are
abbrev pub DeterminizesSome : Course
DeterminizesSome = VisitsSome (Treats Determinizing)

-- What the command `eliminate` does to a network.
use Rattle.std.specs.Prelude.{◌≡◌, ℕ, Bool, List, [], ◌∷◌}
use Rattle.mv_entry.specs.declared.rule.Rule.TheVariants.{Collapse}
use Rattle.mv_entry.specs.declared.note.Note.TheVariants.{Dropped}
use Rattle.mv_entry.specs.declared.note.Why.TheVariants.{Lines}
use Rattle.mv_entry.specs.Entries.{Entry, Applied, Noted}
use Rattle.mv_net.specs.declared.parts.NetParts.{NetParts}
use Rattle.mv_net.specs.Nets.{slot, name_in}
use Rattle.mv_pass.specs.Courses.{Course, Nothing, InTurn, Until, VisitsAll, VisitsSome, Onward}
use Rattle.mv_pass.specs.Going.{Goes}
use Rattle.mv_gain.specs.Savings.{NoneSaves, IsLeastSaving, IsWideNet}

-- the least-numbered net that saves has this name
pub record IsLeastNamed (net : NetParts) (name : List ℕ) : Type 0 where
  pub number : ℕ
  pub first : IsLeastSaving net number
  pub named : name_in (slot net.nets number) ≡ name

-- the collapses of `eliminate`: each is that of the least-numbered net which can go into its
-- readers with no more literals
abbrev pub IsEliminateStep : NetParts → Entry → Type 0
IsEliminateStep net (Applied (Collapse name)) = IsLeastNamed net name
IsEliminateStep net _ = ⊥

-- some collapses of `eliminate`
abbrev pub CollapsesSome : Bool → Course
CollapsesSome free = Goes free IsEliminateStep

-- all of them: collapses until no net saves
abbrev pub CollapsesAll : Bool → Course
CollapsesAll free = Until (CollapsesSome free) NoneSaves

-- the note of a net with a composite that is too wide
abbrev pub wide_note : NetParts → ℕ → Entry
wide_note net n = Noted (Dropped Lines (name_in (slot net.nets n)))

-- a visit of the net n behind the collapses: no composite of it is too wide, and it is let be; or
-- one is, and that is noted
pub data NotesWide (n : ℕ) (old : NetParts) (entries : List Entry) (new : NetParts) : Type 0 where
  Skips : (IsWideNet old n → ⊥) → Nothing old entries new → NotesWide n old entries new
  Tells : IsWideNet old n → entries ≡ wide_note old n ∷ [] → new ≡ old → NotesWide n old entries new

-- some of `eliminate`: collapses; or all of them, and notes of the first so many nets
abbrev pub Eliminates : Bool → Course
Eliminates free = Onward (CollapsesSome free) (CollapsesAll free) (VisitsSome NotesWide)

-- all of `eliminate`: collapses until no net saves, and then the notes of all nets that are too
-- wide, ascending
abbrev pub EliminatesAll : Bool → Course
EliminatesAll free = InTurn (CollapsesAll free) (VisitsAll NotesWide)

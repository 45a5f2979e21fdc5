-- What the commands `kernel` and `cube` do to a network: the best common divisor is taken out,
-- again and again.
use Rattle.std.specs.Prelude.{◌≡◌, ℕ, Bool, true, List, [], ◌∷◌}
use Rattle.mv_base.specs.Names.{is_net_name}
use Rattle.mv_cover.specs.Literal.{Lit}
use Rattle.mv_entry.specs.declared.note.Note.TheVariants.{Dropped}
use Rattle.mv_entry.specs.declared.note.Why.TheVariants.{Kernels, Nets}
use Rattle.mv_entry.specs.Entries.{Entry, Noted}
use Rattle.mv_gains.specs.Candidates.{Candidates, IsBest, NoneSaves, IsKernelCandidate, IsCubeCandidate, HasManyKernels}
use Rattle.mv_net.specs.declared.parts.NetParts.{NetParts}
use Rattle.mv_net.specs.Fresh.{IsFreshName}
use Rattle.mv_net.specs.Nets.{slot, name_in}
use Rattle.mv_pass.specs.Courses.{Course, Nothing, InTurn, Perhaps, Repeated, VisitsAll, VisitsSome, Onward}
use Rattle.mv_plans.specs.Checks.{HasRoom}
use Rattle.mv_extract.specs.Steps.{TakesBest, TakesBestSome}

-- a divisor would be the next one, but the network has no number left for its net, which was to
-- have this name, a lawful one
pub record IsFull (Candidate : Candidates) (net : NetParts) (name : List ℕ) : Type 0 where
  pub divisor : List (List Lit)
  pub best : IsBest Candidate net.nets divisor
  pub full : HasRoom net.nets → ⊥
  pub fresh : IsFreshName net.nets 0 name
  pub lawful : is_net_name name ≡ true

-- how an extraction ends: no candidate saves, and this comes behind; or one does for which no
-- number is left, and the name of the net that was to come is noted
pub data EndsBy
    (Candidate : Candidates) (Behind : Course)
    (old : NetParts) (entries : List Entry) (new : NetParts) : Type 0 where
  NoneLeft : NoneSaves Candidate old.nets → Behind old entries new
      → EndsBy Candidate Behind old entries new
  NoRoom : (name : List ℕ) → IsFull Candidate old name → entries ≡ Noted (Dropped Nets name) ∷ []
      → new ≡ old
      → EndsBy Candidate Behind old entries new

-- an extraction: the best candidate is taken out until none saves, and then this comes
abbrev pub Extracts : Candidates → Course → Bool → Course
Extracts Candidate Behind free =
    InTurn (Repeated (TakesBest Candidate free)) (EndsBy Candidate Behind)

-- some of an extraction
abbrev pub ExtractsSome : Candidates → Course → Bool → Course
ExtractsSome Candidate Behind free =
    Onward (InTurn (Repeated (TakesBest Candidate free)) (Perhaps (TakesBestSome Candidate free)))
    (Repeated (TakesBest Candidate free)) (Perhaps (EndsBy Candidate Behind))

-- a visit of the net n at the end of `kernel`: a cover of its table has too many kernels, which is
-- noted; or none has
pub data NotesKernels (n : ℕ) (old : NetParts) (entries : List Entry) (new : NetParts)
    : Type 0 where
  Skips : (HasManyKernels old.nets n → ⊥) → Nothing old entries new → NotesKernels n old entries new
  Tells : HasManyKernels old.nets n
      → entries ≡ Noted (Dropped Kernels (name_in (slot old.nets n))) ∷ [] → new ≡ old
      → NotesKernels n old entries new

-- all of `kernel`, and some of it
abbrev pub KernelsAll : Bool → Course
KernelsAll = Extracts IsKernelCandidate (VisitsAll NotesKernels)

abbrev pub KernelsSome : Bool → Course
KernelsSome = ExtractsSome IsKernelCandidate (VisitsSome NotesKernels)

-- all of `cube`, and some of it
abbrev pub CubesAll : Bool → Course
CubesAll = Extracts IsCubeCandidate Nothing

abbrev pub CubesSome : Bool → Course
CubesSome = ExtractsSome IsCubeCandidate Nothing

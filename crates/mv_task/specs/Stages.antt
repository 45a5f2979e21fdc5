-- The stages of a task: what it reads in turn, and judges.
use Rattle.std.specs.Prelude.{◌≡◌, ◌⊎◌, ℕ, List, [], ◌∷◌}
use Rattle.mv_base.specs.Outside.{Stored}
use Rattle.mv_task.specs.Sources.{Source, IsContent, IsReadWhole, Misses, starts_with}

-- where a stage reads from; which contents it accepts, and the lines that tell the fault of another
-- one; and the status of a refusal
pub record Stage : Type 1 where
  pub from : Source
  pub Accepts : List ℕ → Type 0
  pub Faults : List ℕ → List ℕ → Type 0
  pub refusal : ℕ

-- the stage accepts this content, which is there
pub record Takes (s : Stage) (files : Stored) (content : List ℕ) : Type 0 where
  pub is : IsContent s.from files content
  pub accepted : s.Accepts content

-- what is there is refused
pub record IsRefused (s : Stage) (files : Stored) : Type 0 where
  pub content : List ℕ
  pub is : IsContent s.from files content
  pub refused : s.Accepts content → ⊥

-- what is there is refused, for a fault that this line tells
pub record IsFaulty (s : Stage) (files : Stored) (line : List ℕ) : Type 0 where
  pub content : List ℕ
  pub is : IsContent s.from files content
  pub refused : s.Accepts content → ⊥
  pub fault : s.Faults content line

-- each stage accepts its content, in order
abbrev pub AreTaken : List Stage → Stored → List (List ℕ) → Type 0
AreTaken [] files [] = Unit {0}
AreTaken (s ∷ ss) files (content ∷ contents) = Takes s files content × AreTaken ss files contents
AreTaken [] files (content ∷ contents) = ⊥
AreTaken (s ∷ ss) files [] = ⊥

-- this holds of a stage and of the files' count of starts behind it, and those before it accept
-- what is there
abbrev pub FirstOf : (Stage → ℕ → Type 0) → List Stage → Stored → ℕ → Type 0
FirstOf P [] files starts = ⊥
FirstOf P (s ∷ ss) files starts = P s (starts_with s.from starts)
    ⊎ ((content : List ℕ)
    × (Takes s files content × FirstOf P ss files (starts_with s.from starts)))

-- the files' count of starts behind all stages
abbrev pub starts_behind : List Stage → ℕ → ℕ
starts_behind [] starts = starts
starts_behind (s ∷ ss) starts = starts_behind ss (starts_with s.from starts)

-- the content of the last stage was read to its end
abbrev pub IsLastRead : List Stage → Stored → Stored → List (List ℕ) → Type 0
IsLastRead (s ∷ []) old new (content ∷ []) = IsReadWhole s.from old new content
IsLastRead (s ∷ ss) old new (content ∷ contents) = IsLastRead ss old new contents
IsLastRead ss old new contents = Unit {0}

-- all stages accept these contents, and each of their files was begun once, and no other
pub record AreRead (stages : List Stage) (old new : Stored) (contents : List (List ℕ))
    : Type 0 where
  pub taken : AreTaken stages old contents
  pub last : IsLastRead stages old new contents
  pub begun : new.starts ≡ starts_behind stages old.starts

-- ---- why a stage is the last one

-- it is refused with this status and line
pub record EndsRefused (status : ℕ) (line : List ℕ) (old new : Stored) (s : Stage) (starts : ℕ)
    : Type 0 where
  pub is : status ≡ s.refusal
  pub faulty : IsFaulty s old line
  pub begun : new.starts ≡ starts

-- a read failed, and sound files lack what it reads
pub record EndsUnread (old new : Stored) (s : Stage) (starts : ℕ) : Type 0 where
  pub misses : Misses s.from old
  pub begun : new.starts ≡ starts

-- memory ran out
abbrev pub EndsShort : Stored → Stage → ℕ → Type 0
EndsShort new s starts = new.starts ≡ starts

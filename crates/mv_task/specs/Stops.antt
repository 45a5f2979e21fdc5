-- Why a stage gives nothing. Private functions alone cite these.
use Rattle.std.specs.Prelude.{◌≡◌, ℕ, List}
use Rattle.mv_base.specs.Outside.{Stored, Rose}
use Rattle.mv_files.specs.FileReading.{Stay}
use Rattle.mv_task.specs.declared.stop.Stop.{Stop}
use Rattle.mv_task.specs.declared.stop.Stop.TheVariants.{Refused, Read, Memory}
use Rattle.mv_task.specs.Lines.{read_line, memory_line}
use Rattle.mv_task.specs.Sources.{IsReadWhole, Misses, starts_with}
use Rattle.mv_task.specs.Stages.{Stage, IsFaulty}

-- the status, by that of a refusal
abbrev pub status_of : {T : Type 0} → ℕ → Stop T → ℕ
status_of refusal (Refused fault) = refusal
status_of refusal Read = 4
status_of refusal Memory = 6

-- the line, by those of the faults
abbrev pub line_of : {T : Type 0} → (T → List ℕ) → Stop T → List ℕ
line_of told (Refused fault) = told fault
line_of told Read = read_line
line_of told Memory = memory_line

-- what is there is refused for this fault
pub record RefusesFor {T : Type 0} (told : T → List ℕ) (s : Stage) (files : Stored) (fault : T)
    : Type 0 where
  pub faulty : IsFaulty s files (told fault)

-- what each cause says; want of memory says nothing
abbrev pub IsCause : {T : Type 0} → (T → List ℕ) → Stage → Stored → Stored → Stop T → Type 0
IsCause told s old new (Refused fault) = RefusesFor told s old fault
IsCause told s old new Read = Rose old.faults new.faults × Misses s.from old
IsCause told s old new Memory = Unit {0}

-- the stage accepts what was read to its end, which says this value
pub record Gives {V : Type 0} (IsSaid : List ℕ → V → Type 0) (s : Stage) (old new : Stored)
    (value : V) : Type 0 where
  pub content : List ℕ
  pub read : IsReadWhole s.from old new content
  pub accepted : s.Accepts content
  pub said : IsSaid content value

-- the files stay, and what is there was begun once
pub record WasBegun (s : Stage) (old new : Stored) : Type 0 where
  pub stay : Stay old new
  pub begun : new.starts ≡ starts_with s.from old.starts

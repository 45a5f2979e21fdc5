-- How a task ends.
use Rattle.std.specs.Prelude.{◌≡◌, ◌⊎◌, ◌==◌, ◌||◌, ℕ, Bool, false, List, [], ◌∷◌}
use Rattle.mv_base.specs.Outside.{Stored, Written, Gained, GainedPart, Rose}
use Rattle.mv_task.specs.Lines.{TellsLine, TellsBehind, read_line, memory_line}
use Rattle.mv_task.specs.Stages.{Stage, AreRead, FirstOf, EndsRefused, EndsUnread, EndsShort}

-- ---- the outside

-- the output and the notes
pub record Sinks : Type 0 where
  pub out : Written
  pub notes : Written

abbrev pub sinks : Written → Written → Sinks
sinks out notes = record { out = out; notes = notes }

-- the files, the output and the notes
pub record Outside : Type 0 where
  pub files : Stored
  pub sinks : Sinks

abbrev pub seen : Stored → Written → Written → Outside
seen files out notes = record { files = files; sinks = record { out = out; notes = notes } }

-- ---- the work

-- what a task's work is, on what it read: what it puts to the notes and to the output where it is
-- done, what it may have put to the notes before that, what it puts to the output where its answer
-- is no, and the statuses with which it refuses what it read for causes of its own, with their lines
pub record Work : Type 1 where
  pub Does : List ℕ → List ℕ → Type 0
  pub Notes : List ℕ → Type 0
  pub Denies : List ℕ → Type 0
  pub Refuses : ℕ → List ℕ → Type 0

-- the statuses that every task may have
abbrev pub is_common : ℕ → Bool
is_common k = k == 0 || k == 4 || k == 5 || k == 6 || k == 9

-- the work is done
pub record IsDone (work : Work) (old new : Sinks) : Type 0 where
  pub noted : List ℕ
  pub written : List ℕ
  pub does : work.Does noted written
  pub notes : Gained old.notes new.notes noted
  pub out : Gained old.out new.out written

-- its answer is no
pub record IsDenied (work : Work) (old new : Sinks) : Type 0 where
  pub written : List ℕ
  pub denies : work.Denies written
  pub notes : new.notes ≡ old.notes
  pub out : Gained old.out new.out written

-- how the work ends: it is done; its answer is no, of which the notes tell nothing; the output
-- failed, behind the notes, or while it took a no; the notes failed, which leaves the output as it
-- was, and so does all that follows; memory ran out, and the notes tell so behind what was put to
-- them, which is there whole; or the task refuses what it read
pub data WorkEnds (work : Work) (old new : Sinks) (status : ℕ) : Type 0 where
  Done : (is : status ≡ 0) → (done : IsDone work old new) → WorkEnds work old new status
  Denied : (is : status ≡ 9) → (denied : IsDenied work old new) → WorkEnds work old new status
  DenialCut : (is : status ≡ 5) → (rose : Rose old.out.faults new.out.faults)
      → (untouched : new.notes ≡ old.notes) → (written : List ℕ) → (denies : work.Denies written)
      → (part : GainedPart old.out new.out written) → WorkEnds work old new status
  OutputCut : (is : status ≡ 5) → (rose : Rose old.out.faults new.out.faults)
      → (noted written : List ℕ) → (does : work.Does noted written)
      → (notes : Gained old.notes new.notes noted) → (part : GainedPart old.out new.out written)
      → WorkEnds work old new status
  NotesCut : (is : status ≡ 5) → (rose : Rose old.notes.faults new.notes.faults)
      → (untouched : new.out ≡ old.out) → (noted : List ℕ)
      → (does : work.Notes noted ⊎ ((written : List ℕ) × work.Does noted written))
      → (part : GainedPart old.notes new.notes noted) → WorkEnds work old new status
  Stopped : (is : status ≡ 6) → (untouched : new.out ≡ old.out) → (noted : List ℕ)
      → (stops : (noted ≡ []) ⊎ work.Notes noted)
      → (tells : TellsBehind old.notes new.notes noted memory_line) → WorkEnds work old new status
  Own : (apart : is_common status ≡ false) → (untouched : new.out ≡ old.out) → (line : List ℕ)
      → (refuses : work.Refuses status line) → (tells : TellsLine old.notes new.notes line)
      → WorkEnds work old new status

-- ---- the task

-- the stages, and the work on their contents
pub record Task : Type 1 where
  pub stages : List Stage
  pub work : List (List ℕ) → Work

-- how a task ends. A stage is refused, behind those that are accepted; a read failed; or memory ran
-- out, before anything was read or in some stage: the output is as it was, and the notes tell why.
-- Or all stages are accepted, and the work ends
pub data Ends (task : Task) (old new : Outside) (status : ℕ) : Type 0 where
  Refused : (apart : is_common status ≡ false) → (line : List ℕ)
      → (first : FirstOf (EndsRefused status line old.files new.files) task.stages old.files
      old.files.starts)
      → (untouched : new.sinks.out ≡ old.sinks.out)
      → (tells : TellsLine old.sinks.notes new.sinks.notes line) → Ends task old new status
  Unread : (is : status ≡ 4) → (rose : Rose old.files.faults new.files.faults)
      → (first : FirstOf (EndsUnread old.files new.files) task.stages old.files old.files.starts)
      → (untouched : new.sinks.out ≡ old.sinks.out)
      → (tells : TellsLine old.sinks.notes new.sinks.notes read_line) → Ends task old new status
  Short : (is : status ≡ 6)
      → (begun : (new.files ≡ old.files)
      ⊎ FirstOf (EndsShort new.files) task.stages old.files old.files.starts)
      → (untouched : new.sinks.out ≡ old.sinks.out)
      → (tells : TellsLine old.sinks.notes new.sinks.notes memory_line) → Ends task old new status
  Worked : (contents : List (List ℕ)) → (read : AreRead task.stages old.files new.files contents)
      → (ends : WorkEnds (task.work contents) old.sinks new.sinks status)
      → Ends task old new status

-- ---- tasks of two stages

-- the content says a value, of which this holds
pub record Says {V : Type 0} (IsSaid : List ℕ → V → Type 0) (content : List ℕ) (P : V → Type 0)
    : Type 0 where
  pub value : V
  pub said : IsSaid content value
  pub holds : P value

-- the work on the value that a content says
abbrev pub work_on : {V : Type 0} → (List ℕ → V → Type 0) → List ℕ → (V → Work) → Work
work_on IsSaid content work = record {
  Does = λ noted written. Says IsSaid content (λ value. (work value).Does noted written);
  Notes = λ noted. Says IsSaid content (λ value. (work value).Notes noted);
  Denies = λ written. Says IsSaid content (λ value. (work value).Denies written);
  Refuses = λ status line. Says IsSaid content (λ value. (work value).Refuses status line);
}

-- no work at all
abbrev pub no_work : Work
no_work = record {
  Does = λ noted written. ⊥;
  Notes = λ noted. ⊥;
  Denies = λ written. ⊥;
  Refuses = λ status line. ⊥;
}

-- the work on the values that two contents say
abbrev pub work_on_both : {V W : Type 0} → (List ℕ → V → Type 0) → (List ℕ → W → Type 0)
    → (V → W → Work) → List (List ℕ) → Work
work_on_both IsFirst IsSecond work (first ∷ second ∷ []) =
    work_on IsFirst first (λ value. work_on IsSecond second (work value))
work_on_both IsFirst IsSecond work contents = no_work

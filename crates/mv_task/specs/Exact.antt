-- The refusals of a task the other way round, and when it succeeds.
use Rattle.std.specs.Prelude.{◌≡◌, ◌⊎◌, ℕ, IsTrue, is_some, IsSomeAnd, List}
use Rattle.mv_base.specs.Outside.{Stored, Rose}
use Rattle.mv_task.specs.Ends.{Outside, Task}
use Rattle.mv_task.specs.Stages.{Stage, AreTaken, FirstOf, IsRefused}

-- no read failed, and memory was there
pub record IsUnhindered (status : ℕ) : Type 0 where
  pub read : status ≡ 4 → ⊥
  pub memory : status ≡ 6 → ⊥

-- the stage refuses with this status
pub record RefusesWith (status : ℕ) (files : Stored) (s : Stage) (starts : ℕ) : Type 0 where
  pub is : status ≡ s.refusal
  pub refused : IsRefused s files

-- of files that tell, the first stage that isn't accepted gives its status: a read that failed and
-- want of memory alone come before
abbrev pub IsExact : List Stage → Stored → ℕ → Type 0
IsExact stages files status = (refusal : ℕ) → IsTrue (is_some files.held)
    → FirstOf (RefusesWith refusal files) stages files files.starts → IsUnhindered status
    → status ≡ refusal

-- with sound files whose contents all stages accept, and no count of the output's and of the notes'
-- faults risen, the work is done, unless memory ran out, the task refuses what it read, or its
-- answer is no
abbrev pub IsComplete : Task → Outside → Outside → ℕ → Type 0
IsComplete task old new status = (contents : List (List ℕ))
    → IsSomeAnd old.files.held (λ held. IsTrue held.sound)
    → AreTaken task.stages old.files contents
    → (Rose old.sinks.out.faults new.sinks.out.faults → ⊥)
    → (Rose old.sinks.notes.faults new.sinks.notes.faults → ⊥)
    → (status ≡ 0) ⊎ (status ≡ 6) ⊎ ((line : List ℕ) × (task.work contents).Refuses status line)
    ⊎ ((status ≡ 9) × ((written : List ℕ) × (task.work contents).Denies written))

-- On the way through `eliminate`: the net that is found, and what its collapse leaves. For private
-- functions.
use Rattle.std.specs.Prelude.{◌≡◌, ℕ, List}
use Rattle.mv_agenda.specs.Agenda.{AllWaitBut}
use Rattle.mv_net.specs.declared.parts.NetParts.{NetParts}
use Rattle.mv_net.specs.Formed.{WellFormed}
use Rattle.mv_plans.specs.Collapsing.{Collapses}
use Rattle.mv_gain.specs.Savings.{IsSaving, IsLeastSaving}

-- the net at n is the least that saves, and each other that saves waits
pub record IsNextSaving (net : NetParts) (agenda : List ℕ) (n : ℕ) : Type 0 where
  pub first : IsLeastSaving net n
  pub others : AllWaitBut (IsSaving net) agenda n

-- the net at n went into its readers
pub record WentInto (old new : NetParts) (n : ℕ) : Type 0 where
  pub name : List ℕ
  pub collapses : Collapses old name new
  pub number : collapses.number ≡ n
  pub formed : WellFormed new

-- On the way through a `drop`: the net that is found. For private functions.
use Rattle.std.specs.Prelude.{ℕ, List}
use Rattle.mv_agenda.specs.Agenda.{AllWaitBut}
use Rattle.mv_net.specs.declared.parts.NetParts.{NetParts}
use Rattle.mv_net.specs.Total.{IsRemovable}
use Rattle.mv_sweep.specs.Drops.{IsLeastRemovable}

-- the net at n is the least that can go, and each other that can go waits
pub record IsNextRemovable (net : NetParts) (agenda : List ℕ) (n : ℕ) : Type 0 where
  pub first : IsLeastRemovable net n
  pub others : AllWaitBut (IsRemovable net) agenda n

-- On the way through a `merge`: the net that is found. For private functions.
use Rattle.std.specs.Prelude.{ℕ, List}
use Rattle.mv_agenda.specs.Agenda.{AllWaitBut}
use Rattle.mv_alike.specs.declared.next.NextMerge.{NextMerge}
use Rattle.mv_net.specs.declared.parts.NetParts.{NetParts}
use Rattle.mv_merge.specs.Merges.{CanMerge, IsLeastMerge}

-- the net at n is the least that has a merge, and each other that has one waits
pub record IsNext (net : NetParts) (agenda : List ℕ) (n : ℕ) (next : NextMerge) : Type 0 where
  pub first : IsLeastMerge net n next
  pub others : AllWaitBut (CanMerge net) agenda n

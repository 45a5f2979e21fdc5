-- Each net that can go waits.
use Rattle.std.proofs.Common.{length}
use Rattle.mv_agenda.specs.Agenda.{AllWait}
use Rattle.mv_net.specs.Total.{IsRemovable}
use Rattle.mv_sweep.proofs.unread.next_removable.Given as goal

abbrev pub invariant-looking : goal.invariant-looking
invariant-looking l = AllWait (IsRemovable l.net) l.agenda

abbrev pub decreases-looking : goal.decreases-looking
decreases-looking l = length l.agenda

-- Each net to which a rule applies waits, and what is kept is right.
use Rattle.std.proofs.Common.{length}
use Rattle.mv_agenda.specs.Agenda.{AllWait}
use Rattle.mv_gain.specs.Kept.{AreRight}
use Rattle.mv_sweep.specs.Ways.{CanSweep}
use Rattle.mv_sweep.proofs.sweeping.next_found.Given as goal

abbrev pub invariant-looking : goal.invariant-looking
invariant-looking l = record { wait : AllWait (CanSweep l.net) l.agenda; right : AreRight l.net.nets l.kept }

abbrev pub decreases-looking : goal.decreases-looking
decreases-looking l = length l.agenda

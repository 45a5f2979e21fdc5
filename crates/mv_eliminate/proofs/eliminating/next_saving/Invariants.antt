-- Each net that saves waits, and what is kept is right.
use Rattle.std.proofs.Common.{length}
use Rattle.mv_agenda.specs.Agenda.{AllWait}
use Rattle.mv_gain.specs.Kept.{AreRight}
use Rattle.mv_gain.specs.Savings.{IsSaving}
use Rattle.mv_eliminate.proofs.eliminating.next_saving.Given as goal

abbrev pub invariant-looking : goal.invariant-looking
invariant-looking l = record { wait : AllWait (IsSaving l.net) l.agenda; right : AreRight l.net.nets l.kept }

abbrev pub decreases-looking : goal.decreases-looking
decreases-looking l = length l.agenda

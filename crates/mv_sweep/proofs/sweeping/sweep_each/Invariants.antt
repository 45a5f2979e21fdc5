-- Each net to which a rule applies waits, what is kept is right, and each step leaves fewer.
use Rattle.mv_agenda.specs.Agenda.{AllWait}
use Rattle.mv_base.specs.Meaning.{SameMeaning}
use Rattle.mv_locality.proofs.Steps.{steps_left}
use Rattle.mv_net.specs.Allowed.{of_net}
use Rattle.mv_pass.proofs.Coming.{Came}
use Rattle.mv_gain.specs.Kept.{AreRight}
use Rattle.mv_sweep.specs.Sweeps.{SweepsSome}
use Rattle.mv_sweep.specs.Ways.{CanSweep}
use Rattle.mv_sweep.proofs.sweeping.sweep_each.Given as goal

abbrev pub invariant-sweeping : goal.invariant-sweeping
invariant-sweeping g l = record {
  came : Came l.terms.free (SweepsSome l.terms.free) l.fn.net l.net (g.J.Journal.state l.fn.journal) (g.J.Journal.state l.journal);
  wait : AllWait (CanSweep l.net) l.agenda;
  right : AreRight l.net.nets l.kept;
  means : SameMeaning (of_net l.net) (of_net l.fn.net);
}

abbrev pub decreases-sweeping : goal.decreases-sweeping
decreases-sweeping g l = steps_left l.net.nets

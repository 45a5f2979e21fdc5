-- Each net that saves waits, what is kept is right, and each collapse leaves fewer steps.
use Rattle.mv_agenda.specs.Agenda.{AllWait}
use Rattle.mv_base.specs.Meaning.{SameMeaning}
use Rattle.mv_locality.proofs.Steps.{steps_left}
use Rattle.mv_net.specs.Allowed.{of_net}
use Rattle.mv_pass.proofs.Coming.{Came}
use Rattle.mv_gain.specs.Kept.{AreRight}
use Rattle.mv_gain.specs.Savings.{IsSaving}
use Rattle.mv_eliminate.specs.Eliminates.{CollapsesSome}
use Rattle.mv_eliminate.proofs.eliminating.collapse_each.Given as goal

abbrev pub invariant-collapsing : goal.invariant-collapsing
invariant-collapsing g l = record {
  came : Came l.terms.free (CollapsesSome l.terms.free) l.fn.net l.net (g.J.Journal.state l.fn.journal) (g.J.Journal.state l.journal);
  wait : AllWait (IsSaving l.net) l.agenda;
  right : AreRight l.net.nets l.kept;
  means : SameMeaning (of_net l.net) (of_net l.fn.net);
}

abbrev pub decreases-collapsing : goal.decreases-collapsing
decreases-collapsing g l = steps_left l.net.nets

-- Each net that can go waits, and each that goes leaves fewer steps.
use Rattle.mv_agenda.specs.Agenda.{AllWait}
use Rattle.mv_base.specs.Meaning.{SameMeaning}
use Rattle.mv_locality.proofs.Steps.{steps_left}
use Rattle.mv_net.specs.Allowed.{of_net}
use Rattle.mv_net.specs.Total.{IsRemovable}
use Rattle.mv_pass.proofs.Coming.{Came}
use Rattle.mv_sweep.specs.Drops.{DropsSome}
use Rattle.mv_sweep.proofs.unread.remove_each.Given as goal

abbrev pub invariant-removing : goal.invariant-removing
invariant-removing g l = record {
  came : Came l.terms.free (DropsSome l.terms.free) l.fn.net l.net (g.J.Journal.state l.fn.journal) (g.J.Journal.state l.journal);
  wait : AllWait (IsRemovable l.net) l.agenda;
  means : SameMeaning (of_net l.net) (of_net l.fn.net);
}

abbrev pub decreases-removing : goal.decreases-removing
decreases-removing g l = steps_left l.net.nets

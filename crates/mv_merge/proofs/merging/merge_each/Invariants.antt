-- Each net that has a merge waits, and each merge leaves fewer values.
use Rattle.mv_agenda.specs.Agenda.{AllWait}
use Rattle.mv_base.specs.Meaning.{SameMeaning}
use Rattle.mv_net.specs.Allowed.{of_net}
use Rattle.mv_pass.proofs.Coming.{Came}
use Rattle.mv_merge.specs.Merges.{CanMerge, MergesSome}
use Rattle.mv_merge.proofs.Behind.{values_of}
use Rattle.mv_merge.proofs.merging.merge_each.Given as goal

abbrev pub invariant-merging : goal.invariant-merging
invariant-merging g l = record {
  came : Came l.terms.free (MergesSome l.terms.free) l.fn.net l.net (g.J.Journal.state l.fn.journal) (g.J.Journal.state l.journal);
  wait : AllWait (CanMerge l.net) l.agenda;
  means : SameMeaning (of_net l.net) (of_net l.fn.net);
}

abbrev pub decreases-merging : goal.decreases-merging
decreases-merging g l = values_of l.net.nets

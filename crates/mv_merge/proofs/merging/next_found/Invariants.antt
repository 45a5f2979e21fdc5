-- Each net that has a merge waits.
use Rattle.std.proofs.Common.{length}
use Rattle.mv_agenda.specs.Agenda.{AllWait}
use Rattle.mv_merge.specs.Merges.{CanMerge}
use Rattle.mv_merge.proofs.merging.next_found.Given as goal

abbrev pub invariant-looking : goal.invariant-looking
invariant-looking l = AllWait (CanMerge l.net) l.agenda

abbrev pub decreases-looking : goal.decreases-looking
decreases-looking l = length l.agenda

use Rattle.mv_agenda.specs.Agenda.{WaitBelow}
use Rattle.mv_agenda.proofs.agenda.Agenda.of_all.Given as goal

abbrev pub invariant-loop-number : goal.invariant-loop-number
invariant-loop-number l = WaitBelow l.nets.keys l.number

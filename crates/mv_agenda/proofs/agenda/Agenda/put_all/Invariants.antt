use Rattle.std.proofs.Common.{take}
use Rattle.mv_agenda.specs.Agenda.{PutsAll}
use Rattle.mv_agenda.proofs.agenda.Agenda.put_all.Given as goal

abbrev pub invariant-loop-n : goal.invariant-loop-n
invariant-loop-n l = PutsAll l.fn.self l.self (take l.n-index l.nets)

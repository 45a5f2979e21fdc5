use Rattle.std.proofs.Common.{take}
use Rattle.mv_agenda.proofs.NearOnes.{PutsEach}
use Rattle.mv_agenda.proofs.near.put_near.Given as goal

abbrev pub invariant-loop-reader : goal.invariant-loop-reader
invariant-loop-reader l = PutsEach l.net.nets l.fn.n.0 (take l.reader-index l.reader-items) l.fn.agenda l.agenda

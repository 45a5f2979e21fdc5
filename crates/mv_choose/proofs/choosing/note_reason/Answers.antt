-- The note is one of the visit's.
use Rattle.mv_choose.proofs.Determinized.{noted_so}
use Rattle.mv_choose.proofs.choosing.note_reason.Goals as goal

pub returns : goal.returns
returns g c = noted_so c.args.terms.free c.args.net.now c.args.n.0 c.requires.table c.args.why _ _ _ c.requires.notes (c.note_why.ensures c.args.terms.free)

-- The note is one of the visit's.
use Rattle.mv_encode.proofs.Visited.{noted_so}
use Rattle.mv_encode.proofs.encoding.note_reason.Goals as goal

pub note_why-requires : goal.note_why-requires
note_why-requires g c = c.requires.to_encode.tabled

pub returns-in-Ok : goal.returns-in-Ok
returns-in-Ok g c = noted_so c.args.terms.free c.args.net.now c.args.n.0 c.args.why _ _ _ c.requires.to_encode c.requires.stays (c.in-Ok.ensures c.args.terms.free)

pub returns-in-Err : goal.returns-in-Err
returns-in-Err g c = noted_so c.args.terms.free c.args.net.now c.args.n.0 c.args.why _ _ _ c.requires.to_encode c.requires.stays (c.in-Err.ensures c.args.terms.free)

use Rattle.mv_solve.proofs.Spreading.{open_told, open_held}
use Rattle.mv_solve.proofs.backward.note_no_match.Goals as goal

pub note-requires-clause-held : goal.note-requires-clause-held
note-requires-clause-held c = open_held c.args.net.now.nets c.args.known.now c.loop-line.known c.args.lines.now c.loop-line.line-index c.line-item.result c.lits.result.now c.in-Some.literal.now c.loop-line-test.true c.line-item.is c.lits.ensures.lits c.requires.told c.in-Some.ensures

pub note-requires-clause-told : goal.note-requires-clause-told
note-requires-clause-told c = open_told c.args.net.now.nets c.args.known.now c.loop-line.known c.args.lines.now c.loop-line.line-index c.line-item.result c.lits.result.now c.in-Some.literal.now c.loop-line-test.true c.line-item.is c.lits.ensures.lits c.loop-line.invariant c.requires.told c.in-Some.ensures

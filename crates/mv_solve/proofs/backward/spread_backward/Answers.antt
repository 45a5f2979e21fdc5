use Rattle.mv_solve.proofs.Spreading.{reads_held}
use Rattle.mv_solve.proofs.backward.spread_backward.Goals as goal

pub note_way-requires-clause-reads : goal.note_way-requires-clause-reads
note_way-requires-clause-reads c = reads_held c.args.net.now.nets c.args.order.now c.requires.order

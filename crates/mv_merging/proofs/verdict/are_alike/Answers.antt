use Rattle.mv_merging.proofs.Looking.{alike_answer}
use Rattle.mv_merging.proofs.verdict.are_alike.Goals as goal

pub returns : goal.returns
returns c = alike_answer c.some_splits.result c.args.net.now.nets c.args.n.0 c.args.u.0 c.args.v.0 c.readers.result.now c.readers.ensures c.some_splits.ensures

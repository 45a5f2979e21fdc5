use Rattle.mv_merging.proofs.Looking.{never_answer}
use Rattle.mv_merging.proofs.verdict.is_never_given.Goals as goal

pub returns : goal.returns
returns c = never_answer c.table_has.result c.args.net.now.nets c.args.n.0 c.args.v.0 c.table_has.ensures

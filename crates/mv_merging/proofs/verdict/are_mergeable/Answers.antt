use Rattle.std.proofs.Common.{arith}
use Rattle.mv_merging.proofs.Looking.{mergeable_answer}
use Rattle.mv_merging.proofs.verdict.are_mergeable.Goals as goal

pub returns : goal.returns
returns c = mergeable_answer c.is_other.result c.args.values c.args.gone c.args.into (omega arith) (omega arith) c.is_other.ensures

use Rattle.std.proofs.Common.{◌∙◌}
use Rattle.mv_dag.proofs.Written.{written_back}
use Rattle.mv_dag.proofs.moves.put_back.Goals as goal

pub returns : goal.returns
returns c = λ before was. c.write.ensures ∙ written_back before c.args.labels.now c.args.moves.now was

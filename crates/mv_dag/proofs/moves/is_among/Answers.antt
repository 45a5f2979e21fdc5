use Rattle.std.proofs.Common.{◌∙◌}
use Rattle.mv_dag.proofs.Gains.{id_among}
use Rattle.mv_dag.proofs.moves.is_among.Goals as goal

pub returns : goal.returns
returns c = c.contains.ensures ∙ id_among c.args.nets.now.keys c.args.entry.net

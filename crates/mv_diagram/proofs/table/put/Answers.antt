use Rattle.mv_diagram.proofs.Equal.{node_from, node_whole}
use Rattle.mv_diagram.proofs.Making.{put_gives, put_fails}
use Rattle.mv_diagram.specs.contracts.node.NodePartialEq.TheImpl.{eq-value}
use Rattle.mv_diagram.proofs.table.put.Goals as goal

pub returns-in-Ok-clause-ok : goal.returns-in-Ok-clause-ok
returns-in-Ok-clause-ok c =
    put_gives eq-value.it node_from node_whole c.args.pool.now c.put.new.self c.args.node c.put.result c.put.ensures.held c.put.ensures.fresh c.put.ensures.full c.in-Ok.id c.at.result.0 c.in-Ok.is c.at.ensures.fits c.at.ensures.number

pub returns-in-Err-clause-absent : goal.returns-in-Err-clause-absent
returns-in-Err-clause-absent c =
    (put_fails eq-value.it node_from node_whole c.args.pool.now c.put.new.self c.args.node c.put.result c.put.ensures.held c.put.ensures.fresh c.put.ensures.full c.in-Err.full c.in-Err.is).1

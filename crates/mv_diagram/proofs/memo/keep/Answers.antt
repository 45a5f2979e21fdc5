use Rattle.mv_diagram.proofs.Remembering.{kept}
use Rattle.mv_diagram.proofs.memo.keep.Goals as goal

pub returns : goal.returns
returns c = kept c.args.memo.now c.put.new.self c.args.key c.args.d c.put.result c.put.ensures.entries c.put.ensures.err

-- The list of one net is taken out, changed and put back.
use Rattle.mv_dag.proofs.Grown.{reader-taken}
use Rattle.mv_dag.proofs.readers.take_reader.Goals as goal

pub returns : goal.returns
returns c =
    reader-taken c.args.readers.now c.replace-nets.new.self c.replace.new.self c.args.net.0 c.args.reader.0 _ _ _ c.requires.within c.requires.ascend c.replace-nets.ensures.before c.replace-nets.ensures.items c.replace.ensures.items c.take_net.ensures

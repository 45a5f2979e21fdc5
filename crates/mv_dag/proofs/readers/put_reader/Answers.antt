-- The list of one net is taken out, changed and put back.
use Rattle.mv_dag.proofs.Grown.{reader-put, reader-has}
use Rattle.mv_dag.proofs.readers.put_reader.Goals as goal

pub returns-clause-grown : goal.returns-clause-grown
returns-clause-grown c =
    reader-put c.put_net-put.result c.args.readers.now c.replace-nets.new.self c.replace.new.self c.args.net.0 c.args.reader.0 _ _ _ c.requires.within c.requires.ascend c.replace-nets.ensures.before c.replace-nets.ensures.items c.replace.ensures.items c.put_net-put.ensures.ok c.put_net-put.ensures.err

pub returns-clause-ok : goal.returns-clause-ok
returns-clause-ok c =
    reader-has c.put_net-put.result c.args.readers.now c.replace-nets.new.self c.replace.new.self c.args.net.0 c.args.reader.0 _ _ _ c.requires.within c.replace-nets.ensures.before c.replace-nets.ensures.items c.replace.ensures.items c.put_net-put.ensures.ok

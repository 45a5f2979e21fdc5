-- What is ready stays so, or is so anew.
use Rattle.std.proofs.Common.{ap}
use Rattle.mv_diagram.specs.Diagrams.{Contents}
use Rattle.mv_wide.proofs.Finding.{ready_new, ready_same}
use Rattle.mv_wide.proofs.find.restart.Goals as goal

pub returns-in-Err-clause-ready : goal.returns-in-Err-clause-ready
returns-in-Err-clause-ready c =
    ready_same c.args.factors.now c.restart.new.self c.args.frame.now c.requires.ready c.in-Err.ensures.same c.in-Err.ensures.long

pub returns-clause-ready : goal.returns-clause-ready
returns-clause-ready c =
    ready_new c.restart.new.self c.add_none.new.self c.args.new c.as_slice.result.now c.args.room c.requires.new
    (ap (λ (k : Contents). k.counts) c.in-Ok.ensures.contents) c.as_slice.ensures.value c.in-Ok.ensures.room c.requires.room c.add_none.ensures.keeps
    c.add_none.ensures.long

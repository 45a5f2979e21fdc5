-- The names of one command more are added, those that it reads and those behind them.
use Rattle.std.proofs.Common.{◌∙◌, sym}
use Rattle.mv_acyclic.proofs.Names.{with_named_more}
use Rattle.mv_acyclic.proofs.nets.add_named.Goals as goal

pub loop-naming-preserved : goal.loop-naming-preserved
loop-naming-preserved c =
    let parts = c.parts.result in
    rw (c.in_ok-add_nets-2.ensures, c.in_ok-add_nets.ensures)
    (sym (with_named_more c.loop-naming.nets c.args.namings.now c.loop-naming.naming-index c.naming-item.result
    parts.0.now parts.1.now c.loop-naming-test.true c.naming-item.is c.parts.ensures)
    ∙ c.loop-naming.invariant)

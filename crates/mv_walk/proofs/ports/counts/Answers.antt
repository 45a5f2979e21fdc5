use Rattle.std.proofs.Common.{◌≡◌, length}
use Rattle.mv_walk.proofs.Lookups.{count_next}
use Rattle.mv_walk.proofs.ports.counts.Goals as goal

pub loop-decl-preserved : goal.loop-decl-preserved
loop-decl-preserved c =
    let e : c.len.result ≡ length c.decl-item.result.values = c.len.ensures in
    count_next c.args.decls.now c.loop-decl.counts c.put_first.new.map c.loop-decl.decl-index c.decl-item.result c.loop-decl.invariant c.loop-decl-test.true c.decl-item.is
    (rw e at c.in_ok-put_first.ensures)

use Rattle.std.proofs.Common.{get_or, refl, arith}
use Rattle.mv_base.specs.declared.number.NetId.{NetId}
use Rattle.mv_graph.proofs.Transposes.{IsPutOn-more}
use Rattle.mv_graph.proofs.transpose.put_on.Goals as goal

pub loop-named-preserved : goal.loop-named-preserved
loop-named-preserved c =
    let none : NetId = record { 0 = 0 } in
    let ns = c.args.nets.now in
    let i = c.loop-named.named-index in
    let l = c.loop-named.invariant in
    IsPutOn-more c.args.rows.now c.loop-named.rows c.put_last.new.rows ns i (get_or ns i none) none c.args.net (omega arith) refl (omega (arith, l.long, c.requires i none c.loop-named-test.true)) l c.in_ok-put_last.ensures

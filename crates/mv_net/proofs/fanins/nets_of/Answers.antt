use Rattle.std.proofs.Common.{◌∙◌, ◌++◌, map, sym, ap, arith}
use Rattle.mv_cover.specs.Literal.{Lit}
use Rattle.mv_net.proofs.LineNets.{line_nets-more}
use Rattle.mv_net.proofs.fanins.nets_of.Goals as goal

pub loop-line-preserved : goal.loop-line-preserved
loop-line-preserved c =
    let e = line_nets-more c.as_slice-line-items.result.now c.loop-line.line-index c.line-item.result (omega arith) c.line-item.is in
    c.in_ok-add_nets.ensures ∙ (ap (λ ns. ns ++ map (λ (m : Lit). m.net) c.line-item.result.cube) c.loop-line.invariant ∙ sym e)

use Rattle.std.proofs.Common.{◌+◌, ◌<◌, ◌≤◌, length, drop, arith}
use Rattle.std.specs.List.{flat_map}
use Rattle.mv_base.proofs.Gains.{next, stop, finish}
use Rattle.mv_page.proofs.Adding.{adds}
use Rattle.mv_lex.specs.Text.{line_text}
use Rattle.mv_blif_text.specs.BlifText.{net_words}
use Rattle.mv_write.proofs.Parts.{nets-more, nets-none}
use Rattle.mv_blif_write.proofs.tables.put_tables.Goals as goal

pub returns-in_err-put_net : goal.returns-in_err-put_net
returns-in_err-put_net g c =
    let nets = c.args.net.now.nets in
    let low : c.loop-n.n < length nets = omega arith in
    stop adds (flat_map line_text (flat_map (net_words nets) (drop (c.loop-n.n + 1) nets))) _ _ c.loop-n.invariant (nets-more (net_words nets) nets c.loop-n.n low) c.in_err-put_net.ensures c.from_residual.ensures.1

pub loop-n-preserved : goal.loop-n-preserved
loop-n-preserved g c =
    let nets = c.args.net.now.nets in
    let low : c.loop-n.n < length nets = omega arith in
    next adds c.loop-n.invariant (nets-more (net_words nets) nets c.loop-n.n low) c.in_ok-put_net.ensures

pub returns : goal.returns
returns g c =
    let nets = c.args.net.now.nets in
    let high : length nets ≤ c.loop-n.n = omega arith in
    finish adds c.loop-n.invariant (nets-none (net_words nets) nets c.loop-n.n high)

use Rattle.std.specs.List.{flat_map}
use Rattle.mv_base.proofs.Gains.{start, next, stop, last}
use Rattle.mv_page.proofs.Adding.{adds}
use Rattle.mv_lex.specs.Text.{line_text}
use Rattle.mv_blif_text.specs.BlifText.{net_words}
use Rattle.mv_blif_write.proofs.Whole.{inner-text}
use Rattle.mv_blif_write.proofs.network.put_inner.Goals as goal

pub returns-in_err-put_latches : goal.returns-in_err-put_latches
returns-in_err-put_latches g c =
    let net = c.args.net.now in
    let tables = flat_map line_text (flat_map (net_words net.nets) net.nets) in
    stop adds tables _ _ (start adds _ _) (inner-text net c.args.latches.now) c.in_err-put_latches.ensures c.from_residual.ensures.1

pub returns : goal.returns
returns g c =
    last adds (next adds (start adds _ _) (inner-text c.args.net.now c.args.latches.now) c.in_ok-put_latches.ensures) c.put_tables.ensures

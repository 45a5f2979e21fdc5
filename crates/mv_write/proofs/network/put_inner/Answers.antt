use Rattle.std.proofs.Common.{◌++◌, map, refl}
use Rattle.std.specs.List.{flat_map}
use Rattle.mv_base.proofs.Gains.{start, next, stop, last}
use Rattle.mv_page.proofs.Adding.{adds}
use Rattle.mv_lex.specs.Text.{line_text}
use Rattle.mv_text.specs.Text.{latch_words, net_words}
use Rattle.mv_write.proofs.Parts.{inner-text}
use Rattle.mv_write.proofs.network.put_inner.Goals as goal

pub returns-in_err-put_declarations : goal.returns-in_err-put_declarations
returns-in_err-put_declarations g c =
    let net = c.args.net.now in
    let latches = flat_map line_text (map (latch_words net.nets) net.latches) in
    let tables = flat_map line_text (flat_map (net_words net.nets) net.nets) in
    stop adds (latches ++ tables) _ _ (start adds _ _) (inner-text net) c.in_err-put_declarations.ensures c.from_residual.ensures.1

pub returns-in_err-put_latches : goal.returns-in_err-put_latches
returns-in_err-put_latches g c =
    let net = c.args.net.now in
    let tables = flat_map line_text (flat_map (net_words net.nets) net.nets) in
    stop adds tables _ _ (next adds (start adds _ _) (inner-text net) c.in_ok-put_declarations.ensures) refl c.in_err-put_latches.ensures c.from_residual-in_err-put_latches.ensures.1

pub returns : goal.returns
returns g c =
    let at = next adds (start adds _ _) (inner-text c.args.net.now) c.in_ok-put_declarations.ensures in
    last adds (next adds at refl c.in_ok-put_latches.ensures) c.put_tables.ensures

use Rattle.std.proofs.Common.{◌++◌, codes, refl}
use Rattle.std.specs.List.{flat_map}
use Rattle.mv_lex.specs.Text.{line_text}
use Rattle.mv_blif_text.specs.BlifText.{inner_lines}
use Rattle.mv_base.proofs.Gains.{start, next, stop, last}
use Rattle.mv_page.proofs.Adding.{adds}
use Rattle.mv_blif_write.proofs.network.put_network.Goals as goal

pub returns-in_err-put_ports : goal.returns-in_err-put_ports
returns-in_err-put_ports g c =
    let inner = flat_map line_text (inner_lines c.args.net.now c.args.latches.now) in
    stop adds (inner ++ codes ".end\n") _ _ (start adds _ _) refl c.in_err-put_ports.ensures c.from_residual.ensures.1

pub returns-in_err-put_inner : goal.returns-in_err-put_inner
returns-in_err-put_inner g c =
    let at = next adds (start adds _ _) refl c.in_ok-put_ports.ensures in
    stop adds (codes ".end\n") _ _ at refl c.in_err-put_inner.ensures c.from_residual-in_err-put_inner.ensures.1

pub returns : goal.returns
returns g c =
    let at = next adds (start adds _ _) refl c.in_ok-put_ports.ensures in
    last adds (next adds at refl c.in_ok-put_inner.ensures) c.put.ensures

use Rattle.std.proofs.Common.{[], ◌∷◌, ◌++◌}
use Rattle.mv_base.proofs.Gains.{start, next, stop, last}
use Rattle.mv_page.proofs.Adding.{adds}
use Rattle.mv_net.specs.Nets.{slot, spelled_in}
use Rattle.mv_text.specs.Text.{entry_word}
use Rattle.mv_write.proofs.Lines.{row-text}
use Rattle.mv_write.proofs.rows.put_row.Goals as goal

pub returns-in_err-put_entries : goal.returns-in_err-put_entries
returns-in_err-put_entries g c =
    let nets = c.args.net.now.nets in
    let values = spelled_in (slot nets c.args.n.0) in
    let text = row-text nets values c.args.line.now c.args.fanins.now c.lits.result.now c.lits.ensures.lits c.lits.ensures.formed c.requires.fanins in
    stop adds (entry_word values c.args.line.now.out ++ 10 ∷ []) _ _ (start adds _ _) text c.in_err-put_entries.ensures c.from_residual.ensures.1

pub returns : goal.returns
returns g c =
    let nets = c.args.net.now.nets in
    let values = spelled_in (slot nets c.args.n.0) in
    let text = row-text nets values c.args.line.now c.args.fanins.now c.lits.result.now c.lits.ensures.lits c.lits.ensures.formed c.requires.fanins in
    last adds (next adds (start adds _ _) text c.in_ok-put_entries.ensures) c.put_entry.ensures

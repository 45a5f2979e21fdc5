use Rattle.std.proofs.Common.{◌+◌, [], ◌∷◌, drop}
use Rattle.std.proofs.lemmas.List.{at_drop_all}
use Rattle.mv_base.proofs.Gains.{next, stop, finish}
use Rattle.mv_page.proofs.Adding.{adds}
use Rattle.mv_page.proofs.Items.{items-more}
use Rattle.mv_text.specs.Text.{numbers}
use Rattle.mv_cover.specs.declared.line.Line.{Line}
use Rattle.mv_blif_write.proofs.RowText.{rows_text, rows-more}
use Rattle.mv_blif_write.proofs.rows.put_rows.Goals as goal

pub returns-in_err-put_picked : goal.returns-in_err-put_picked
returns-in_err-put_picked g c =
    let text = rows_text (numbers c.args.fanins.now) c.args.ones in
    let i = c.loop-line.line-index in
    stop adds (text (drop (i + 1) c.args.lines.now)) _ _ c.loop-line.invariant (items-more text (λ (x : Line). text (x ∷ [])) c.args.lines.now i c.line-item.result (rows-more (numbers c.args.fanins.now) c.args.ones) c.loop-line-test.true c.line-item.is) c.in_err-put_picked.ensures c.from_residual.ensures.1

pub loop-line-preserved : goal.loop-line-preserved
loop-line-preserved g c =
    let text = rows_text (numbers c.args.fanins.now) c.args.ones in
    next adds c.loop-line.invariant (items-more text (λ (x : Line). text (x ∷ [])) c.args.lines.now c.loop-line.line-index c.line-item.result (rows-more (numbers c.args.fanins.now) c.args.ones) c.loop-line-test.true c.line-item.is) c.in_ok-put_picked.ensures

pub returns : goal.returns
returns g c =
    finish adds c.loop-line.invariant (at_drop_all (rows_text (numbers c.args.fanins.now) c.args.ones) c.args.lines.now c.loop-line.line-index c.loop-line-test.false)

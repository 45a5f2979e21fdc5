use Rattle.std.proofs.Common.{◌+◌, drop, refl}
use Rattle.std.specs.List.{flat_map}
use Rattle.std.proofs.lemmas.List.{at_drop_all}
use Rattle.mv_base.proofs.Gains.{next, stop, finish}
use Rattle.mv_page.proofs.Adding.{adds}
use Rattle.mv_page.proofs.Items.{items-more}
use Rattle.mv_lex.specs.Text.{line_text}
use Rattle.mv_cover.specs.declared.line.Line.{Line}
use Rattle.mv_net.specs.Nets.{slot, spelled_in, values_in}
use Rattle.mv_text.specs.Text.{line_words, numbers}
use Rattle.mv_write.proofs.Held.{line-fanins}
use Rattle.mv_write.proofs.Literals.{line-over}
use Rattle.mv_write.proofs.rows.put_rows.Goals as goal

pub put_row-requires-clause-fanins : goal.put_row-requires-clause-fanins
put_row-requires-clause-fanins g c =
    line-fanins c.args.lines.now c.loop-line.line-index c.line-item.result c.args.fanins.now c.loop-line-test.true c.line-item.is c.requires.fanins

pub put_row-requires-clause-line : goal.put_row-requires-clause-line
put_row-requires-clause-line g c =
    let nets = c.args.net.now.nets in
    line-over nets (values_in (slot nets c.args.n.0)) c.args.lines.now c.loop-line.line-index c.line-item.result c.loop-line-test.true c.line-item.is c.requires.lines

pub returns-in_err-put_row : goal.returns-in_err-put_row
returns-in_err-put_row g c =
    let nets = c.args.net.now.nets in
    let text = λ (x : Line). line_text (line_words nets (spelled_in (slot nets c.args.n.0)) (numbers c.args.fanins.now) x) in
    stop adds (flat_map text (drop (c.loop-line.line-index + 1) c.args.lines.now)) _ _ c.loop-line.invariant (items-more (flat_map text) text c.args.lines.now c.loop-line.line-index c.line-item.result (λ l ls. refl) c.loop-line-test.true c.line-item.is) c.in_err-put_row.ensures c.from_residual.ensures.1

pub loop-line-preserved : goal.loop-line-preserved
loop-line-preserved g c =
    let nets = c.args.net.now.nets in
    let text = λ (x : Line). line_text (line_words nets (spelled_in (slot nets c.args.n.0)) (numbers c.args.fanins.now) x) in
    next adds c.loop-line.invariant (items-more (flat_map text) text c.args.lines.now c.loop-line.line-index c.line-item.result (λ l ls. refl) c.loop-line-test.true c.line-item.is) c.in_ok-put_row.ensures

pub returns : goal.returns
returns g c =
    let nets = c.args.net.now.nets in
    let text = λ (x : Line). line_text (line_words nets (spelled_in (slot nets c.args.n.0)) (numbers c.args.fanins.now) x) in
    finish adds c.loop-line.invariant (at_drop_all (flat_map text) c.args.lines.now c.loop-line.line-index c.loop-line-test.false)

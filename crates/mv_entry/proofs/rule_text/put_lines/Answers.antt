use Rattle.std.proofs.Common.{◌+◌, drop, map}
use Rattle.std.specs.List.{flat_map}
use Rattle.mv_base.proofs.Gains.{next, stop, finish}
use Rattle.mv_page.proofs.Adding.{adds}
use Rattle.mv_lex.specs.Text.{line_text}
use Rattle.mv_entry.specs.Entries.{line_words}
use Rattle.mv_entry.proofs.Texts.{lines-more, lines-none}
use Rattle.mv_entry.proofs.rule_text.put_lines.Goals as goal

pub returns-in_err-put_line : goal.returns-in_err-put_line
returns-in_err-put_line g c =
    let list = c.args.lines.now in
    let i = c.loop-line.line-index in
    stop adds (flat_map line_text (map line_words (drop (i + 1) list))) _ _ c.loop-line.invariant (lines-more list i c.line-item.result c.loop-line-test.true c.line-item.is) c.in_err-put_line.ensures c.from_residual.ensures.1

pub loop-line-preserved : goal.loop-line-preserved
loop-line-preserved g c =
    next adds c.loop-line.invariant (lines-more c.args.lines.now c.loop-line.line-index c.line-item.result c.loop-line-test.true c.line-item.is) c.in_ok-put_line.ensures

pub returns : goal.returns
returns g c = finish adds c.loop-line.invariant (lines-none c.args.lines.now c.loop-line.line-index c.loop-line-test.false)

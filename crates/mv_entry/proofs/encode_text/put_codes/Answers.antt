use Rattle.std.proofs.Common.{◌+◌, drop, map}
use Rattle.mv_base.proofs.Gains.{next, stop, finish}
use Rattle.mv_page.proofs.Adding.{adds}
use Rattle.mv_lex.specs.Text.{spaced}
use Rattle.mv_entry.specs.Entries.{code_word}
use Rattle.mv_entry.proofs.Texts.{codes-more, codes-none}
use Rattle.mv_entry.proofs.encode_text.put_codes.Goals as goal

pub returns-in_err-put_code : goal.returns-in_err-put_code
returns-in_err-put_code g c =
    let list = c.args.list.now in
    let i = c.loop-code.code-index in
    stop adds (spaced (map code_word (drop (i + 1) list))) _ _ c.loop-code.invariant (codes-more list i c.code-item.result c.loop-code-test.true c.code-item.is) c.in_err-put_code.ensures c.from_residual.ensures.1

pub loop-code-preserved : goal.loop-code-preserved
loop-code-preserved g c =
    next adds c.loop-code.invariant (codes-more c.args.list.now c.loop-code.code-index c.code-item.result c.loop-code-test.true c.code-item.is) c.in_ok-put_code.ensures

pub returns : goal.returns
returns g c = finish adds c.loop-code.invariant (codes-none c.args.list.now c.loop-code.code-index c.loop-code-test.false)

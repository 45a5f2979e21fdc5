use Rattle.std.proofs.Common.{◌+◌, drop}
use Rattle.mv_base.proofs.Gains.{next, stop, finish}
use Rattle.mv_page.proofs.Adding.{adds}
use Rattle.mv_lex.specs.Text.{spaced}
use Rattle.mv_write.proofs.Lines.{spaced-more, spaced-none}
use Rattle.mv_write.proofs.declarations.put_spaced.Goals as goal

pub returns-in_err-put_both : goal.returns-in_err-put_both
returns-in_err-put_both g c =
    let names = c.args.names.now in
    let i = c.loop-name.name-index in
    stop adds (spaced (drop (i + 1) names)) _ _ c.loop-name.invariant (spaced-more names i c.bytes.result.now c.name-item.result c.loop-name-test.true c.name-item.is c.bytes.ensures) c.in_err-put_both.ensures c.from_residual.ensures.1

pub loop-name-preserved : goal.loop-name-preserved
loop-name-preserved g c =
    next adds c.loop-name.invariant (spaced-more c.args.names.now c.loop-name.name-index c.bytes.result.now c.name-item.result c.loop-name-test.true c.name-item.is c.bytes.ensures) c.in_ok-put_both.ensures

pub returns : goal.returns
returns g c = finish adds c.loop-name.invariant (spaced-none c.args.names.now c.loop-name.name-index c.loop-name-test.false)

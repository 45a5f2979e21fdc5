use Rattle.std.proofs.Common.{◌+◌, drop}
use Rattle.mv_lex.specs.Text.{spaced}
use Rattle.mv_text.specs.Text.{names_of}
use Rattle.mv_base.proofs.Gains.{next, stop, finish}
use Rattle.mv_page.proofs.Adding.{adds}
use Rattle.mv_write.proofs.Lines.{names-more, names-none}
use Rattle.mv_write.proofs.Held.{has-at}
use Rattle.mv_write.proofs.pieces.put_names.Goals as goal

pub name-requires : goal.name-requires
name-requires g c = c.requires.each _ (has-at c.args.nets.now c.loop-n.n-index c.loop-n-test.true)

pub returns-in_err-put_both : goal.returns-in_err-put_both
returns-in_err-put_both g c =
    let nets = c.args.net.now.nets in
    let list = c.args.nets.now in
    let i = c.loop-n.n-index in
    stop adds (spaced (names_of nets (drop (i + 1) list))) _ _ c.loop-n.invariant (names-more nets list i c.name.result.now c.loop-n-test.true c.name.ensures) c.in_err-put_both.ensures c.from_residual.ensures.1

pub loop-n-preserved : goal.loop-n-preserved
loop-n-preserved g c =
    next adds c.loop-n.invariant (names-more c.args.net.now.nets c.args.nets.now c.loop-n.n-index c.name.result.now c.loop-n-test.true c.name.ensures) c.in_ok-put_both.ensures

pub returns : goal.returns
returns g c =
    finish adds c.loop-n.invariant (names-none c.args.net.now.nets c.args.nets.now c.loop-n.n-index c.loop-n-test.false)

use Rattle.std.proofs.Common.{◌+◌, ◌<◌, ◌≤◌, length, drop, arith}
use Rattle.std.specs.List.{flat_map}
use Rattle.mv_base.proofs.Gains.{next, stop, finish}
use Rattle.mv_page.proofs.Adding.{adds}
use Rattle.mv_lex.specs.Text.{line_text}
use Rattle.mv_text.specs.Text.{decl_words}
use Rattle.mv_write.proofs.Parts.{nets-more, nets-none}
use Rattle.mv_write.proofs.declarations.put_declarations.Goals as goal

pub returns-in_err-declare : goal.returns-in_err-declare
returns-in_err-declare g c =
    let nets = c.args.net.now.nets in
    let low : c.loop-n.n < length nets = omega arith in
    stop adds (flat_map line_text (flat_map decl_words (drop (c.loop-n.n + 1) nets))) _ _ c.loop-n.invariant (nets-more decl_words nets c.loop-n.n low) c.in_err-declare.ensures c.from_residual.ensures.1

pub loop-n-preserved : goal.loop-n-preserved
loop-n-preserved g c =
    let nets = c.args.net.now.nets in
    let low : c.loop-n.n < length nets = omega arith in
    next adds c.loop-n.invariant (nets-more decl_words nets c.loop-n.n low) c.in_ok-declare.ensures

pub returns : goal.returns
returns g c =
    let nets = c.args.net.now.nets in
    let high : length nets ≤ c.loop-n.n = omega arith in
    finish adds c.loop-n.invariant (nets-none decl_words nets c.loop-n.n high)

use Rattle.std.proofs.Common.{◌+◌, ◌<◌, ◌≤◌, length, drop, arith}
use Rattle.std.specs.List.{enumerate_from}
use Rattle.mv_base.proofs.Gains.{next, stop, finish}
use Rattle.mv_page.proofs.Adding.{adds}
use Rattle.mv_lex.specs.Text.{spaced}
use Rattle.mv_trace.specs.Answer.{words_from, net_name}
use Rattle.mv_trace.proofs.AnswerTexts.{words_more, words_none}
use Rattle.mv_trace.proofs.answer.put_all_names.Goals as goal

pub returns-in_err-put_name : goal.returns-in_err-put_name
returns-in_err-put_name g c =
    let nets = c.args.net.now.nets in
    let low : c.loop-n.n < length nets = omega arith in
    stop adds (spaced (words_from net_name (enumerate_from (c.loop-n.n + 1) (drop (c.loop-n.n + 1) nets)))) _ _ c.loop-n.invariant (words_more net_name nets c.loop-n.n low) c.in_err-put_name.ensures c.from_residual.ensures.1

pub loop-n-preserved : goal.loop-n-preserved
loop-n-preserved g c =
    let nets = c.args.net.now.nets in
    let low : c.loop-n.n < length nets = omega arith in
    next adds c.loop-n.invariant (words_more net_name nets c.loop-n.n low) c.in_ok-put_name.ensures

pub returns : goal.returns
returns g c =
    let nets = c.args.net.now.nets in
    let high : length nets ≤ c.loop-n.n = omega arith in
    finish adds c.loop-n.invariant (words_none net_name nets c.loop-n.n high)

use Rattle.std.proofs.Common.{◌+◌, ◌<◌, ◌≤◌, length, drop, map, arith}
use Rattle.std.specs.List.{enumerate_from}
use Rattle.mv_base.proofs.Gains.{next, stop, finish}
use Rattle.mv_page.proofs.Adding.{adds}
use Rattle.mv_lex.specs.Text.{spaced}
use Rattle.mv_trace.specs.Answer.{words_from, net_value, at_of}
use Rattle.mv_trace.proofs.AnswerTexts.{words_more, words_none}
use Rattle.mv_trace.proofs.answer.put_all_values.Goals as goal

pub returns-in_err-put_value : goal.returns-in_err-put_value
returns-in_err-put_value g c =
    let nets = c.args.net.now.nets in
    let low : c.loop-n.n < length nets = omega arith in
    stop adds (spaced (words_from (net_value (at_of (map (λ v. v.0) c.args.values.now))) (enumerate_from (c.loop-n.n + 1) (drop (c.loop-n.n + 1) nets)))) _ _ c.loop-n.invariant (words_more (net_value (at_of (map (λ v. v.0) c.args.values.now))) nets c.loop-n.n low) c.in_err-put_value.ensures c.from_residual.ensures.1

pub loop-n-preserved : goal.loop-n-preserved
loop-n-preserved g c =
    let nets = c.args.net.now.nets in
    let low : c.loop-n.n < length nets = omega arith in
    next adds c.loop-n.invariant (words_more (net_value (at_of (map (λ v. v.0) c.args.values.now))) nets c.loop-n.n low) c.in_ok-put_value.ensures

pub returns : goal.returns
returns g c =
    let nets = c.args.net.now.nets in
    let high : length nets ≤ c.loop-n.n = omega arith in
    finish adds c.loop-n.invariant (words_none (net_value (at_of (map (λ v. v.0) c.args.values.now))) nets c.loop-n.n high)

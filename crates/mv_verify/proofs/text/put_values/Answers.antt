use Rattle.std.proofs.Common.{◌+◌, drop, arith}
use Rattle.mv_base.specs.declared.number.Value.{Value}
use Rattle.mv_base.proofs.Gains.{next, stop, finish}
use Rattle.mv_page.proofs.Adding.{adds}
use Rattle.mv_lex.specs.Text.{spaced}
use Rattle.mv_verify.proofs.Lines.{numbers, numbers_more, numbers_none}
use Rattle.mv_verify.proofs.text.put_values.Goals as goal

pub returns-in_err-put_value : goal.returns-in_err-put_value
returns-in_err-put_value g c =
    let none : Value = record { 0 = 0 } in
    let vs = c.args.values.now in
    stop adds (spaced (numbers (drop (c.loop-value.value-index + 1) vs))) _ _ c.loop-value.invariant (numbers_more vs c.loop-value.value-index none (omega arith)) c.in_err-put_value.ensures c.from_residual.ensures.1

pub loop-value-preserved : goal.loop-value-preserved
loop-value-preserved g c =
    let none : Value = record { 0 = 0 } in
    next adds c.loop-value.invariant (numbers_more c.args.values.now c.loop-value.value-index none (omega arith)) c.in_ok-put_value.ensures

pub returns : goal.returns
returns g c = finish adds c.loop-value.invariant (numbers_none c.args.values.now c.loop-value.value-index (omega arith))

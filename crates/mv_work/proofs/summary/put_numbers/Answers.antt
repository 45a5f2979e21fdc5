use Rattle.std.proofs.Common.{◌∙◌, ◌+◌, drop, refl}
use Rattle.mv_base.proofs.Gains.{appends, next, stop}
use Rattle.mv_work.specs.Summing.{numbers_text}
use Rattle.mv_work.proofs.SummaryLines.{numbers-first}
use Rattle.mv_work.proofs.summary.put_numbers.Goals as goal

pub returns-in_err-put_both : goal.returns-in_err-put_both
returns-in_err-put_both g c =
    stop appends (numbers_text (drop (c.loop-number.number-index + 1) c.args.numbers.now)) _ _ c.loop-number.invariant (numbers-first c.args.numbers.now _ _ c.as_bytes.result.now c.loop-number-test.true refl (c.as_bytes.ensures.value ∙ c.format.ensures.text)) c.in_err-put_both.ensures c.from_residual.ensures.1

pub loop-number-preserved : goal.loop-number-preserved
loop-number-preserved g c =
    next appends c.loop-number.invariant (numbers-first c.args.numbers.now _ _ c.as_bytes.result.now c.loop-number-test.true refl (c.as_bytes.ensures.value ∙ c.format.ensures.text)) c.in_ok-put_both.ensures

-- The number's text lies in the line.
use Rattle.std.proofs.Common.{[], ◌∷◌, ◌∙◌}
use Rattle.mv_base.proofs.Gains.{appends, start, next, stop, last}
use Rattle.mv_format.proofs.NumberLines.{number_first}
use Rattle.mv_format.proofs.numbers.put_number.Goals as goal

pub returns-in_err-put_both : goal.returns-in_err-put_both
returns-in_err-put_both g c =
    stop appends (10 ∷ []) _ _ (start appends _ _) (number_first c.args.words.now c.args.number c.as_bytes.result.now (c.as_bytes.ensures.value ∙ c.format.ensures.text)) c.in_err-put_both.ensures c.from_residual.ensures.1

pub returns : goal.returns
returns g c =
    last appends (next appends (start appends _ _) (number_first c.args.words.now c.args.number c.as_bytes.result.now (c.as_bytes.ensures.value ∙ c.format.ensures.text)) c.in_ok-put_both.ensures) c.put.ensures

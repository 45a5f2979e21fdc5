-- Both numbers' texts lie in the line.
use Rattle.std.proofs.Common.{[], ◌∷◌, ◌++◌, ◌∙◌}
use Rattle.std.specs.Prelude.{decimal}
use Rattle.mv_base.proofs.Gains.{appends, start, next, stop, last}
use Rattle.mv_format.proofs.NumberLines.{numbers_first, numbers_second}
use Rattle.mv_format.proofs.numbers.put_numbers.Goals as goal

pub returns-in_err-put_both : goal.returns-in_err-put_both
returns-in_err-put_both g c =
    stop appends (32 ∷ decimal c.args.second ++ 10 ∷ []) _ _ (start appends _ _) (numbers_first c.args.words.now c.args.first c.args.second c.as_bytes.result.now (c.as_bytes.ensures.value ∙ c.format.ensures.text)) c.in_err-put_both.ensures c.from_residual.ensures.1

pub returns-in_err-put_both-2 : goal.returns-in_err-put_both-2
returns-in_err-put_both-2 g c =
    stop appends (10 ∷ []) _ _ (next appends (start appends _ _) (numbers_first c.args.words.now c.args.first c.args.second c.as_bytes.result.now (c.as_bytes.ensures.value ∙ c.format.ensures.text)) c.in_ok-put_both.ensures) (numbers_second c.args.second c.as_bytes-2.result.now (c.as_bytes-2.ensures.value ∙ c.format-2.ensures.text)) c.in_err-put_both-2.ensures c.from_residual-in_err-put_both-2.ensures.1

pub returns : goal.returns
returns g c =
    last appends (next appends (next appends (start appends _ _) (numbers_first c.args.words.now c.args.first c.args.second c.as_bytes.result.now (c.as_bytes.ensures.value ∙ c.format.ensures.text)) c.in_ok-put_both.ensures) (numbers_second c.args.second c.as_bytes-2.result.now (c.as_bytes-2.ensures.value ∙ c.format-2.ensures.text)) c.in_ok-put_both-2.ensures) c.put.ensures

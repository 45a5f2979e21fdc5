use Rattle.std.proofs.Common.{[], ◌∷◌, ◌++◌, refl}
use Rattle.mv_base.proofs.Gains.{appends, start, next, stop, last}
use Rattle.mv_work.specs.Summing.{numbers_text}
use Rattle.mv_work.proofs.SummaryLines.{line-first}
use Rattle.mv_work.proofs.summary.put_line.Goals as goal

pub returns-in_err-put : goal.returns-in_err-put
returns-in_err-put g c =
    stop appends (numbers_text c.args.numbers.now ++ 10 ∷ []) _ _ (start appends _ _) (line-first c.args.word.now c.args.numbers.now) c.in_err-put.ensures c.from_residual.ensures.1

pub returns-in_err-put_numbers : goal.returns-in_err-put_numbers
returns-in_err-put_numbers g c =
    stop appends (10 ∷ []) _ _ (next appends (start appends _ _) (line-first c.args.word.now c.args.numbers.now) c.in_ok-put.ensures) refl c.in_err-put_numbers.ensures c.from_residual-in_err-put_numbers.ensures.1

pub returns : goal.returns
returns g c =
    last appends (next appends (next appends (start appends _ _) (line-first c.args.word.now c.args.numbers.now) c.in_ok-put.ensures) refl c.in_ok-put_numbers.ensures) c.put-2.ensures

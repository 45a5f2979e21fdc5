-- The number's text lies in the line.
use Rattle.std.proofs.Common.{[], ◌∷◌, ◌++◌, refl, ◌∙◌}
use Rattle.mv_base.proofs.Gains.{appends, start, next, stop, last}
use Rattle.mv_tracing.proofs.Told.{told_first}
use Rattle.mv_tracing.proofs.tell.put_told.Goals as goal

pub returns-in_err-put_both : goal.returns-in_err-put_both
returns-in_err-put_both g c =
    stop appends (32 ∷ c.args.cause.now ++ 10 ∷ []) _ _ (start appends _ _) (told_first c.args.line c.args.cause.now c.as_bytes.result.now (c.as_bytes.ensures.value ∙ c.format.ensures.text)) c.in_err-put_both.ensures c.from_residual.ensures.1

pub returns-in_err-put_both-2 : goal.returns-in_err-put_both-2
returns-in_err-put_both-2 g c =
    stop appends (10 ∷ []) _ _ (next appends (start appends _ _) (told_first c.args.line c.args.cause.now c.as_bytes.result.now (c.as_bytes.ensures.value ∙ c.format.ensures.text)) c.in_ok-put_both.ensures) refl c.in_err-put_both-2.ensures c.from_residual-in_err-put_both-2.ensures.1

pub returns : goal.returns
returns g c =
    last appends (next appends (next appends (start appends _ _) (told_first c.args.line c.args.cause.now c.as_bytes.result.now (c.as_bytes.ensures.value ∙ c.format.ensures.text)) c.in_ok-put_both.ensures) refl c.in_ok-put_both-2.ensures) c.put.ensures

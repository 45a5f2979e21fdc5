use Rattle.std.proofs.Common.{◌∙◌, ◌∷◌, ◌++◌, sym, ap, codes}
use Rattle.mv_base.proofs.Gains.{appends, start, next, stop, last}
use Rattle.mv_trace.specs.Told.{head}
use Rattle.mv_trace.proofs.tell.put_head.Goals as goal

pub returns-in_err-put_both : goal.returns-in_err-put_both
unfolding head
returns-in_err-put_both g c =
    let digits = c.as_bytes.ensures.value ∙ c.format.ensures.text in
    stop appends (32 ∷ c.args.name.now) _ _ (start appends _ _) (ap (λ d. (codes "# fault trace " ++ d) ++ 32 ∷ c.args.name.now) (sym digits)) c.in_err-put_both.ensures c.from_residual.ensures.1

pub returns : goal.returns
unfolding head
returns g c =
    let digits = c.as_bytes.ensures.value ∙ c.format.ensures.text in
    last appends (next appends (start appends _ _) (ap (λ d. (codes "# fault trace " ++ d) ++ 32 ∷ c.args.name.now) (sym digits)) c.in_ok-put_both.ensures) c.put_both-2.ensures

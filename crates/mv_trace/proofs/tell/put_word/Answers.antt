use Rattle.std.proofs.Common.{[], ◌∷◌, refl}
use Rattle.mv_base.proofs.Gains.{appends, start, next, stop, last}
use Rattle.mv_fault.specs.Told.{tail}
use Rattle.mv_trace.specs.Told.{trace_line}
use Rattle.mv_trace.proofs.tell.put_word.Goals as goal

pub returns-in_err-put_head : goal.returns-in_err-put_head
unfolding trace_line
returns-in_err-put_head g c =
    stop appends (tail (c.args.word.now ∷ [])) _ _ (start appends _ _) refl c.in_err-put_head.ensures c.from_residual.ensures.1

pub returns-in_err-put_both : goal.returns-in_err-put_both
unfolding trace_line
returns-in_err-put_both g c =
    stop appends (10 ∷ []) _ _ (next appends (start appends _ _) refl c.in_ok-put_head.ensures) refl c.in_err-put_both.ensures c.from_residual-in_err-put_both.ensures.1

pub returns : goal.returns
unfolding trace_line
returns g c =
    last appends (next appends (next appends (start appends _ _) refl c.in_ok-put_head.ensures) refl c.in_ok-put_both.ensures) c.put.ensures

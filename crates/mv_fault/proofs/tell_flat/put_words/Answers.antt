use Rattle.std.proofs.Common.{[], ◌∷◌, refl}
use Rattle.mv_base.proofs.Gains.{appends, start, next, stop, last}
use Rattle.mv_fault.specs.Told.{tail}
use Rattle.mv_fault.specs.Told.{flat_told}
use Rattle.mv_fault.proofs.tell_flat.put_words.Goals as goal

pub returns-in_err-put_fault_name : goal.returns-in_err-put_fault_name
unfolding flat_told
returns-in_err-put_fault_name g c =
    stop appends (tail (c.args.first.now ∷ c.args.second.now ∷ [])) _ _ (start appends _ _) refl c.in_err-put_fault_name.ensures c.from_residual.ensures.1

pub returns-in_err-put_both : goal.returns-in_err-put_both
unfolding flat_told
returns-in_err-put_both g c =
    stop appends (tail (c.args.second.now ∷ [])) _ _ (next appends (start appends _ _) refl c.in_ok-put_fault_name.ensures) refl c.in_err-put_both.ensures c.from_residual-in_err-put_both.ensures.1

pub returns-in_err-put_both-2 : goal.returns-in_err-put_both-2
unfolding flat_told
returns-in_err-put_both-2 g c =
    stop appends (10 ∷ []) _ _ (next appends (next appends (start appends _ _) refl c.in_ok-put_fault_name.ensures) refl c.in_ok-put_both.ensures) refl c.in_err-put_both-2.ensures c.from_residual-in_err-put_both-2.ensures.1

pub returns : goal.returns
unfolding flat_told
returns g c =
    last appends (next appends (next appends (next appends (start appends _ _) refl c.in_ok-put_fault_name.ensures) refl c.in_ok-put_both.ensures) refl c.in_ok-put_both-2.ensures) c.put.ensures

use Rattle.std.proofs.Common.{refl}
use Rattle.mv_base.proofs.Gains.{appends, start, next, stop, last}
use Rattle.mv_base.proofs.pieces.put_both.Goals as goal

pub returns-in_err-put : goal.returns-in_err-put
returns-in_err-put g c =
    stop appends c.args.second.now _ _ (start appends _ _) refl c.in_err-put.ensures c.from_residual.ensures.1

pub returns : goal.returns
returns g c =
    last appends (next appends (start appends _ _) refl c.in_ok-put.ensures) c.put-2.ensures

use Rattle.std.proofs.Common.{refl}
use Rattle.mv_base.proofs.Gains.{start, next, stop, last}
use Rattle.mv_page.proofs.Adding.{adds}
use Rattle.mv_page.proofs.page.Page.put_both.Goals as goal

pub returns-in_err-put : goal.returns-in_err-put
returns-in_err-put g c =
    stop adds c.args.second.now _ _ (start adds _ _) refl c.in_err-put.ensures c.from_residual.ensures.1

pub returns : goal.returns
returns g c =
    last adds (next adds (start adds _ _) refl c.in_ok-put.ensures) c.put-2.ensures

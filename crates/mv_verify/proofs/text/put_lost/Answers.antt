use Rattle.std.proofs.Common.{refl}
use Rattle.mv_base.proofs.Gains.{start, next, stop, last}
use Rattle.mv_page.proofs.Adding.{adds}
use Rattle.mv_verify.specs.Texts.{point_text}
use Rattle.mv_verify.proofs.text.put_lost.Goals as goal

pub returns-in_err-put : goal.returns-in_err-put
returns-in_err-put g c = stop adds (point_text c.args.point.now) _ _ (start adds _ _) refl c.in_err-put.ensures c.from_residual.ensures.1

pub returns : goal.returns
returns g c = last adds (next adds (start adds _ _) refl c.in_ok-put.ensures) c.put_point.ensures

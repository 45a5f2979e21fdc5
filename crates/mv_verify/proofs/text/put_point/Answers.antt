use Rattle.std.proofs.Common.{codes, refl}
use Rattle.mv_base.proofs.Gains.{start, next, stop, last}
use Rattle.mv_page.proofs.Adding.{adds}
use Rattle.mv_verify.specs.Texts.{values_line, point_text}
use Rattle.mv_verify.proofs.text.put_point.Goals as goal

pub returns-in_err-put_line : goal.returns-in_err-put_line
unfolding point_text
returns-in_err-put_line g c = stop adds (values_line (codes "latches") c.args.point.now.latches) _ _ (start adds _ _) refl c.in_err-put_line.ensures c.from_residual.ensures.1

pub returns : goal.returns
unfolding point_text
returns g c = last adds (next adds (start adds _ _) refl c.in_ok-put_line.ensures) c.put_line-2.ensures

use Rattle.std.proofs.Common.{◌++◌, refl}
use Rattle.mv_base.proofs.Gains.{start, next, stop, last}
use Rattle.mv_page.proofs.Adding.{adds}
use Rattle.mv_verify.specs.Texts.{point_text, choice_text}
use Rattle.mv_verify.proofs.text.put_extra.Goals as goal

pub returns-in_err-put : goal.returns-in_err-put
returns-in_err-put g c = stop adds (point_text c.args.point.now ++ choice_text c.args.choice.now) _ _ (start adds _ _) refl c.in_err-put.ensures c.from_residual.ensures.1

pub returns-in_err-put_point : goal.returns-in_err-put_point
returns-in_err-put_point g c = stop adds (choice_text c.args.choice.now) _ _ (next adds (start adds _ _) refl c.in_ok-put.ensures) refl c.in_err-put_point.ensures c.from_residual-in_err-put_point.ensures.1

pub returns : goal.returns
returns g c = last adds (next adds (next adds (start adds _ _) refl c.in_ok-put.ensures) refl c.in_ok-put_point.ensures) c.put_choice.ensures

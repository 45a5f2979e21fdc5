use Rattle.std.proofs.Common.{◌++◌, codes, refl}
use Rattle.mv_base.proofs.Gains.{start, next, stop, last}
use Rattle.mv_page.proofs.Adding.{adds}
use Rattle.mv_verify.specs.Texts.{values_line, choice_text}
use Rattle.mv_verify.proofs.text.put_choice.Goals as goal

pub returns-in_err-put_line : goal.returns-in_err-put_line
unfolding choice_text
returns-in_err-put_line g c =
    let x = c.args.choice.now in
    stop adds (values_line (codes "next") x.next ++ values_line (codes "resets") x.resets) _ _ (start adds _ _) refl c.in_err-put_line.ensures c.from_residual.ensures.1

pub returns-in_err-put_line-2 : goal.returns-in_err-put_line-2
unfolding choice_text
returns-in_err-put_line-2 g c =
    let x = c.args.choice.now in
    stop adds (values_line (codes "resets") x.resets) _ _ (next adds (start adds _ _) refl c.in_ok-put_line.ensures) refl c.in_err-put_line-2.ensures c.from_residual-in_err-put_line-2.ensures.1

pub returns : goal.returns
unfolding choice_text
returns g c = last adds (next adds (next adds (start adds _ _) refl c.in_ok-put_line.ensures) refl c.in_ok-put_line-2.ensures) c.put_line-3.ensures

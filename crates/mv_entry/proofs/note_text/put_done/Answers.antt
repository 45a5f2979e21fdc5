use Rattle.std.proofs.Common.{[], ◌∷◌, ◌++◌, decimal, refl}
use Rattle.mv_base.proofs.Gains.{start, next, stop, last}
use Rattle.mv_page.proofs.Adding.{adds}
use Rattle.mv_lex.specs.Text.{spaced}
use Rattle.mv_entry.proofs.Texts.{done-text}
use Rattle.mv_entry.proofs.note_text.put_done.Goals as goal

pub returns-in_err-put : goal.returns-in_err-put
returns-in_err-put g c =
    stop adds (spaced (decimal c.args.before ∷ decimal c.args.after ∷ []) ++ 10 ∷ []) _ _ (start adds _ _) (done-text c.args.before c.args.after) c.in_err-put.ensures c.from_residual.ensures.1

pub returns-in_err-put_numbers : goal.returns-in_err-put_numbers
returns-in_err-put_numbers g c =
    stop adds (10 ∷ []) _ _ (next adds (start adds _ _) (done-text c.args.before c.args.after) c.in_ok-put.ensures) refl c.in_err-put_numbers.ensures c.from_residual-in_err-put_numbers.ensures.1

pub returns : goal.returns
returns g c =
    last adds (next adds (next adds (start adds _ _) (done-text c.args.before c.args.after) c.in_ok-put.ensures) refl c.in_ok-put_numbers.ensures) c.put-2.ensures

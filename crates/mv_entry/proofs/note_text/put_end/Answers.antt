use Rattle.std.proofs.Common.{[], ◌∷◌, ◌++◌, decimal, refl}
use Rattle.mv_base.proofs.Gains.{start, next, stop, last}
use Rattle.mv_page.proofs.Adding.{adds}
use Rattle.mv_lex.specs.Text.{spaced}
use Rattle.mv_entry.proofs.Texts.{end-text}
use Rattle.mv_entry.proofs.note_text.put_end.Goals as goal

pub returns-in_err-put : goal.returns-in_err-put
returns-in_err-put g c =
    stop adds (spaced (decimal c.args.literals ∷ []) ++ 10 ∷ []) _ _ (start adds _ _) (end-text c.args.literals) c.in_err-put.ensures c.from_residual.ensures.1

pub returns-in_err-put_number : goal.returns-in_err-put_number
returns-in_err-put_number g c =
    stop adds (10 ∷ []) _ _ (next adds (start adds _ _) (end-text c.args.literals) c.in_ok-put.ensures) refl c.in_err-put_number.ensures c.from_residual-in_err-put_number.ensures.1

pub returns : goal.returns
returns g c =
    last adds (next adds (next adds (start adds _ _) (end-text c.args.literals) c.in_ok-put.ensures) refl c.in_ok-put_number.ensures) c.put-2.ensures

use Rattle.std.proofs.Common.{[], ◌∷◌, decimal}
use Rattle.mv_base.proofs.Gains.{start, next, stop, last}
use Rattle.mv_page.proofs.Adding.{adds}
use Rattle.mv_lex.specs.Text.{spaced}
use Rattle.mv_entry.proofs.Texts.{numbers-text}
use Rattle.mv_entry.proofs.words.put_numbers.Goals as goal

pub returns-in_err-put_number : goal.returns-in_err-put_number
returns-in_err-put_number g c =
    stop adds (spaced (decimal c.args.second ∷ [])) _ _ (start adds _ _) (numbers-text c.args.first c.args.second) c.in_err-put_number.ensures c.from_residual.ensures.1

pub returns : goal.returns
returns g c =
    last adds (next adds (start adds _ _) (numbers-text c.args.first c.args.second) c.in_ok-put_number.ensures) c.put_number-2.ensures

use Rattle.std.proofs.Common.{[], ◌∷◌, ◌++◌, refl}
use Rattle.mv_base.proofs.Gains.{start, next, stop, last}
use Rattle.mv_page.proofs.Adding.{adds}
use Rattle.mv_lex.specs.Text.{spaced}
use Rattle.mv_verify.proofs.Lines.{numbers, line_of}
use Rattle.mv_verify.proofs.text.put_line.Goals as goal

pub returns-in_err-put : goal.returns-in_err-put
returns-in_err-put g c =
    let vs = c.list-list.result.now in
    stop adds (spaced (numbers vs) ++ 10 ∷ []) _ _ (start adds _ _) (line_of c.args.word.now c.args.values.now vs c.list-list.ensures) c.in_err-put.ensures c.from_residual.ensures.1

pub returns-in_err-put_values : goal.returns-in_err-put_values
returns-in_err-put_values g c =
    let vs = c.list-list.result.now in
    stop adds (10 ∷ []) _ _ (next adds (start adds _ _) (line_of c.args.word.now c.args.values.now vs c.list-list.ensures) c.in_ok-put.ensures) refl c.in_err-put_values.ensures c.from_residual-in_err-put_values.ensures.1

pub returns : goal.returns
returns g c =
    let vs = c.list-list.result.now in
    last adds (next adds (next adds (start adds _ _) (line_of c.args.word.now c.args.values.now vs c.list-list.ensures) c.in_ok-put.ensures) refl c.in_ok-put_values.ensures) c.put-2.ensures

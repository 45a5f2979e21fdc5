use Rattle.std.proofs.Common.{[], ◌∷◌, ◌++◌, refl}
use Rattle.mv_lex.specs.Text.{spaced}
use Rattle.mv_text.specs.Text.{names_of}
use Rattle.mv_base.proofs.Gains.{start, next, stop, last}
use Rattle.mv_page.proofs.Adding.{adds}
use Rattle.mv_write.proofs.Lines.{line_text-first}
use Rattle.mv_write.proofs.pieces.put_list.Goals as goal

pub returns-in_err-put : goal.returns-in_err-put
returns-in_err-put g c =
    let words = names_of c.args.net.now.nets c.args.nets.now in
    stop adds (spaced words ++ 10 ∷ []) _ _ (start adds _ _) (line_text-first c.args.word.now words) c.in_err-put.ensures c.from_residual.ensures.1

pub returns-in_err-put_names : goal.returns-in_err-put_names
returns-in_err-put_names g c =
    let words = names_of c.args.net.now.nets c.args.nets.now in
    stop adds (10 ∷ []) _ _ (next adds (start adds _ _) (line_text-first c.args.word.now words) c.in_ok-put.ensures) refl c.in_err-put_names.ensures c.from_residual-in_err-put_names.ensures.1

pub returns : goal.returns
returns g c =
    let words = names_of c.args.net.now.nets c.args.nets.now in
    last adds (next adds (next adds (start adds _ _) (line_text-first c.args.word.now words) c.in_ok-put.ensures) refl c.in_ok-put_names.ensures) c.put-2.ensures

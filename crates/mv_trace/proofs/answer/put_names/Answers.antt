use Rattle.std.proofs.Common.{[], ◌∷◌, ◌++◌, refl}
use Rattle.std.specs.List.{enumerate_from}
use Rattle.mv_base.proofs.Gains.{start, next, stop, last}
use Rattle.mv_page.proofs.Adding.{adds}
use Rattle.mv_lex.specs.Text.{spaced}
use Rattle.mv_trace.specs.Answer.{words_from, net_name}
use Rattle.mv_trace.proofs.AnswerTexts.{line_of}
use Rattle.mv_trace.proofs.answer.put_names.Goals as goal

pub returns-in_err-put : goal.returns-in_err-put
returns-in_err-put g c =
    let words = words_from net_name (enumerate_from 0 c.args.net.now.nets) in
    stop adds (spaced words ++ 10 ∷ []) _ _ (start adds _ _) (line_of _ words) c.in_err-put.ensures c.from_residual.ensures.1

pub returns-in_err-put_all_names : goal.returns-in_err-put_all_names
returns-in_err-put_all_names g c =
    let words = words_from net_name (enumerate_from 0 c.args.net.now.nets) in
    stop adds (10 ∷ []) _ _ (next adds (start adds _ _) (line_of _ words) c.in_ok-put.ensures) refl c.in_err-put_all_names.ensures c.from_residual-in_err-put_all_names.ensures.1

pub returns : goal.returns
returns g c =
    let words = words_from net_name (enumerate_from 0 c.args.net.now.nets) in
    last adds (next adds (next adds (start adds _ _) (line_of _ words) c.in_ok-put.ensures) refl c.in_ok-put_all_names.ensures) c.put-2.ensures

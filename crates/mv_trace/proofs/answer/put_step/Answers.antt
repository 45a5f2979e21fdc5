use Rattle.std.proofs.Common.{◌∙◌, [], ◌∷◌, ◌++◌, map, codes, refl, sym, ap}
use Rattle.std.specs.List.{enumerate_from}
use Rattle.mv_base.proofs.Gains.{start, next, stop, last}
use Rattle.mv_page.proofs.Adding.{adds}
use Rattle.mv_lex.specs.Text.{spaced, line_text}
use Rattle.mv_trace.specs.Answer.{words_from, net_value, at_of}
use Rattle.mv_trace.proofs.AnswerTexts.{step_of}
use Rattle.mv_trace.proofs.answer.put_step.Goals as goal

pub returns-in_err-put_both : goal.returns-in_err-put_both
returns-in_err-put_both g c =
    let words = words_from (net_value (at_of (map (λ v. v.0) c.args.values.now))) (enumerate_from 0 c.args.net.now.nets) in
    let text = ap (λ d. line_text (codes "step" ∷ d ∷ words)) (sym (c.as_bytes.ensures.value ∙ c.format.ensures.text)) ∙ step_of c.as_bytes.result.now words in
    stop adds (spaced words ++ 10 ∷ []) _ _ (start adds _ _) text c.in_err-put_both.ensures c.from_residual.ensures.1

pub returns-in_err-put_all_values : goal.returns-in_err-put_all_values
returns-in_err-put_all_values g c =
    let words = words_from (net_value (at_of (map (λ v. v.0) c.args.values.now))) (enumerate_from 0 c.args.net.now.nets) in
    let text = ap (λ d. line_text (codes "step" ∷ d ∷ words)) (sym (c.as_bytes.ensures.value ∙ c.format.ensures.text)) ∙ step_of c.as_bytes.result.now words in
    stop adds (10 ∷ []) _ _ (next adds (start adds _ _) text c.in_ok-put_both.ensures) refl c.in_err-put_all_values.ensures c.from_residual-in_err-put_all_values.ensures.1

pub returns : goal.returns
returns g c =
    let words = words_from (net_value (at_of (map (λ v. v.0) c.args.values.now))) (enumerate_from 0 c.args.net.now.nets) in
    let text = ap (λ d. line_text (codes "step" ∷ d ∷ words)) (sym (c.as_bytes.ensures.value ∙ c.format.ensures.text)) ∙ step_of c.as_bytes.result.now words in
    last adds (next adds (next adds (start adds _ _) text c.in_ok-put_both.ensures) refl c.in_ok-put_all_values.ensures) c.put.ensures

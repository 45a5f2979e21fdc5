use Rattle.std.proofs.Common.{◌∙◌, [], ◌∷◌, codes, sym, ap}
use Rattle.mv_base.proofs.Gains.{appends, start, next, stop, last}
use Rattle.mv_lex.specs.Text.{line_text}
use Rattle.mv_trace.specs.Answer.{no_text}
use Rattle.mv_trace.proofs.AnswerTexts.{no_of}
use Rattle.mv_trace.proofs.answer.put_no.Goals as goal

pub returns-in_err-put_both : goal.returns-in_err-put_both
unfolding no_text
returns-in_err-put_both g c =
    let text = ap (λ d. line_text (codes "no" ∷ d ∷ [])) (sym (c.as_bytes.ensures.value ∙ c.format.ensures.text)) ∙ no_of c.as_bytes.result.now in
    stop appends (10 ∷ []) _ _ (start appends _ _) text c.in_err-put_both.ensures c.from_residual.ensures.1

pub returns : goal.returns
unfolding no_text
returns g c =
    let text = ap (λ d. line_text (codes "no" ∷ d ∷ [])) (sym (c.as_bytes.ensures.value ∙ c.format.ensures.text)) ∙ no_of c.as_bytes.result.now in
    last appends (next appends (start appends _ _) text c.in_ok-put_both.ensures) c.put.ensures

use Rattle.std.proofs.Common.{◌≡◌, ◌∙◌, [], ◌∷◌, ◌++◌, codes, decimal, sym, ap}
use Rattle.mv_base.proofs.Gains.{start, next, stop, last}
use Rattle.mv_page.proofs.Adding.{adds}
use Rattle.mv_lex.specs.Text.{spaced}
use Rattle.mv_blif_text.specs.BlifText.{kind_words}
use Rattle.mv_blif_write.proofs.LatchText.{settings-text}
use Rattle.mv_blif_write.proofs.latches.put_settings.Goals as goal

pub returns-in_err-put_kind : goal.returns-in_err-put_kind
returns-in_err-put_kind g c =
    let b = c.args.latch.now in
    stop adds (codes " " ++ decimal b.init) _ _ (start adds _ _) (settings-text (kind_words b.kind b.control) (decimal b.init)) c.in_err-put_kind.ensures c.from_residual.ensures.1

pub returns : goal.returns
returns g c =
    let b = c.args.latch.now in
    let words = kind_words b.kind b.control in
    let digits : c.as_bytes.result.now ≡ decimal b.init = c.as_bytes.ensures.value ∙ c.format.ensures.text in
    let text = ap (λ d. spaced (words ++ d ∷ [])) (sym digits) ∙ settings-text words c.as_bytes.result.now in
    last adds (next adds (start adds _ _) text c.in_ok-put_kind.ensures) c.put_both.ensures

use Rattle.std.proofs.Common.{◌≡◌, ◌∙◌, [], ◌∷◌, ◌++◌, codes, decimal, refl, sym, ap}
use Rattle.mv_base.proofs.Gains.{start, next, stop, last}
use Rattle.mv_page.proofs.Adding.{adds}
use Rattle.mv_lex.specs.Text.{spaced, line_text}
use Rattle.mv_write.proofs.Lines.{declaration-text}
use Rattle.mv_write.proofs.declarations.put_declaration.Goals as goal

pub returns-in_err-put_both : goal.returns-in_err-put_both
returns-in_err-put_both g c =
    let count = decimal c.args.count in
    let names = c.args.names.now in
    stop adds ((32 ∷ count) ++ (spaced names ++ 10 ∷ [])) _ _ (start adds _ _) (declaration-text c.args.name.now count names) c.in_err-put_both.ensures c.from_residual.ensures.1

pub returns-in_err-put_both-2 : goal.returns-in_err-put_both-2
returns-in_err-put_both-2 g c =
    let name = c.args.name.now in
    let names = c.args.names.now in
    let digits : c.as_bytes.result.now ≡ decimal c.args.count = c.as_bytes.ensures.value ∙ c.format.ensures.text in
    let text = ap (λ d. line_text (codes ".mv" ∷ name ∷ d ∷ names)) (sym digits) ∙ declaration-text name c.as_bytes.result.now names in
    stop adds (spaced names ++ 10 ∷ []) _ _ (next adds (start adds _ _) text c.in_ok-put_both.ensures) refl c.in_err-put_both-2.ensures c.from_residual-in_err-put_both-2.ensures.1

pub returns-in_err-put_spaced : goal.returns-in_err-put_spaced
returns-in_err-put_spaced g c =
    let name = c.args.name.now in
    let names = c.args.names.now in
    let digits : c.as_bytes.result.now ≡ decimal c.args.count = c.as_bytes.ensures.value ∙ c.format.ensures.text in
    let text = ap (λ d. line_text (codes ".mv" ∷ name ∷ d ∷ names)) (sym digits) ∙ declaration-text name c.as_bytes.result.now names in
    let at = next adds (next adds (start adds _ _) text c.in_ok-put_both.ensures) refl c.in_ok-put_both-2.ensures in
    stop adds (10 ∷ []) _ _ at refl c.in_err-put_spaced.ensures c.from_residual-in_err-put_spaced.ensures.1

pub returns : goal.returns
returns g c =
    let name = c.args.name.now in
    let names = c.args.names.now in
    let digits : c.as_bytes.result.now ≡ decimal c.args.count = c.as_bytes.ensures.value ∙ c.format.ensures.text in
    let text = ap (λ d. line_text (codes ".mv" ∷ name ∷ d ∷ names)) (sym digits) ∙ declaration-text name c.as_bytes.result.now names in
    let at = next adds (next adds (start adds _ _) text c.in_ok-put_both.ensures) refl c.in_ok-put_both-2.ensures in
    last adds (next adds at refl c.in_ok-put_spaced.ensures) c.put.ensures

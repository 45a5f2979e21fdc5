use Rattle.std.proofs.Common.{◌∙◌, [], ◌∷◌, ◌++◌, codes, refl, sym, ap}
use Rattle.mv_base.proofs.Gains.{start, next, stop, last, same}
use Rattle.mv_page.proofs.Adding.{adds}
use Rattle.mv_lex.specs.Text.{spaced}
use Rattle.mv_entry.specs.Entries.{set_word}
use Rattle.mv_entry.proofs.Texts.{lit-text}
use Rattle.mv_entry.proofs.rule_text.put_literal.Goals as goal

pub returns-in_err-put_word : goal.returns-in_err-put_word
returns-in_err-put_word g c =
    let l = c.args.literal.now in
    let rest = codes " " ++ set_word l.set in
    let text = lit-text l ∙ ap (λ w. spaced (w ∷ []) ++ rest) (sym c.bytes.ensures) in
    stop adds rest _ _ (start adds _ _) text c.in_err-put_word.ensures c.from_residual.ensures.1

pub returns-in_err-put : goal.returns-in_err-put
returns-in_err-put g c =
    let l = c.args.literal.now in
    let rest = codes " " ++ set_word l.set in
    let text = lit-text l ∙ ap (λ w. spaced (w ∷ []) ++ rest) (sym c.bytes.ensures) in
    let at = next adds (start adds _ _) text c.in_ok-put_word.ensures in
    stop adds (set_word l.set) _ _ at refl c.in_err-put.ensures c.from_residual-in_err-put.ensures.1

pub returns : goal.returns
returns g c =
    let l = c.args.literal.now in
    let rest = codes " " ++ set_word l.set in
    let text = lit-text l ∙ ap (λ w. spaced (w ∷ []) ++ rest) (sym c.bytes.ensures) in
    let at = next adds (start adds _ _) text c.in_ok-put_word.ensures in
    last adds (next adds at refl c.in_ok-put.ensures) (same adds (ap set_word c.get.ensures) c.put_set.ensures)

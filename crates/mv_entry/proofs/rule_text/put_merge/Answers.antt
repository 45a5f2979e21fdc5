use Rattle.std.proofs.Common.{[], ◌∷◌, ◌++◌, decimal, refl, sym, ap}
use Rattle.mv_base.proofs.Gains.{start, next, stop, last}
use Rattle.mv_page.proofs.Adding.{adds}
use Rattle.mv_lex.specs.Text.{spaced}
use Rattle.mv_entry.specs.Entries.{into_words}
use Rattle.mv_entry.proofs.Texts.{merge-text}
use Rattle.mv_entry.proofs.rule_text.put_merge.Goals as goal

pub returns-in_err-put : goal.returns-in_err-put
returns-in_err-put g c =
    let rest = spaced (into_words c.args.into) ++ 10 ∷ [] in
    let text = merge-text c.args.net.now c.args.gone.0 c.args.into in
    stop adds (spaced (c.args.net.now ∷ []) ++ (spaced (decimal c.args.gone.0 ∷ []) ++ rest)) _ _ (start adds _ _) text c.in_err-put.ensures c.from_residual.ensures.1

pub returns-in_err-put_word : goal.returns-in_err-put_word
returns-in_err-put_word g c =
    let rest = spaced (into_words c.args.into) ++ 10 ∷ [] in
    let at = next adds (start adds _ _) (merge-text c.args.net.now c.args.gone.0 c.args.into) c.in_ok-put.ensures in
    stop adds (spaced (decimal c.args.gone.0 ∷ []) ++ rest) _ _ at refl c.in_err-put_word.ensures c.from_residual-in_err-put_word.ensures.1

pub returns-in_err-put_number : goal.returns-in_err-put_number
returns-in_err-put_number g c =
    let rest = spaced (into_words c.args.into) ++ 10 ∷ [] in
    let at = next adds (start adds _ _) (merge-text c.args.net.now c.args.gone.0 c.args.into) c.in_ok-put.ensures in
    let number = ap (λ n. spaced (decimal n ∷ []) ++ rest) (sym c.from.ensures) in
    stop adds rest _ _ (next adds at refl c.in_ok-put_word.ensures) number c.in_err-put_number.ensures c.from_residual-in_err-put_number.ensures.1

pub returns-in_err-put_into : goal.returns-in_err-put_into
returns-in_err-put_into g c =
    let rest = spaced (into_words c.args.into) ++ 10 ∷ [] in
    let at = next adds (start adds _ _) (merge-text c.args.net.now c.args.gone.0 c.args.into) c.in_ok-put.ensures in
    let number = ap (λ n. spaced (decimal n ∷ []) ++ rest) (sym c.from.ensures) in
    let behind = next adds (next adds at refl c.in_ok-put_word.ensures) number c.in_ok-put_number.ensures in
    stop adds (10 ∷ []) _ _ behind refl c.in_err-put_into.ensures c.from_residual-in_err-put_into.ensures.1

pub returns : goal.returns
returns g c =
    let rest = spaced (into_words c.args.into) ++ 10 ∷ [] in
    let at = next adds (start adds _ _) (merge-text c.args.net.now c.args.gone.0 c.args.into) c.in_ok-put.ensures in
    let number = ap (λ n. spaced (decimal n ∷ []) ++ rest) (sym c.from.ensures) in
    let behind = next adds (next adds at refl c.in_ok-put_word.ensures) number c.in_ok-put_number.ensures in
    last adds (next adds behind refl c.in_ok-put_into.ensures) c.put-2.ensures

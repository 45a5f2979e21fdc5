use Rattle.std.proofs.Common.{[], ◌∷◌, ◌++◌, refl, sym, ap}
use Rattle.mv_base.proofs.Gains.{start, next, stop, last}
use Rattle.mv_page.proofs.Adding.{adds}
use Rattle.mv_lex.specs.Text.{spaced}
use Rattle.mv_entry.specs.Entries.{why_word, why_numbers}
use Rattle.mv_entry.proofs.Texts.{dropped-text}
use Rattle.mv_entry.proofs.note_text.put_dropped.Goals as goal

pub returns-in_err-put : goal.returns-in_err-put
returns-in_err-put g c =
    let why = c.args.why in
    let net = c.args.net.now in
    stop adds (spaced (why_word why ∷ []) ++ (spaced (why_numbers why) ++ (spaced (net ∷ []) ++ 10 ∷ []))) _ _ (start adds _ _) (dropped-text why net) c.in_err-put.ensures c.from_residual.ensures.1

pub returns-in_err-put_word : goal.returns-in_err-put_word
returns-in_err-put_word g c =
    let why = c.args.why in
    let net = c.args.net.now in
    let rest = spaced (why_numbers why) ++ (spaced (net ∷ []) ++ 10 ∷ []) in
    let at = next adds (start adds _ _) (dropped-text why net) c.in_ok-put.ensures in
    stop adds rest _ _ at (ap (λ w. spaced (w ∷ []) ++ rest) (sym c.why_word.ensures)) c.in_err-put_word.ensures c.from_residual-in_err-put_word.ensures.1

pub returns-in_err-put_literals : goal.returns-in_err-put_literals
returns-in_err-put_literals g c =
    let why = c.args.why in
    let net = c.args.net.now in
    let rest = spaced (why_numbers why) ++ (spaced (net ∷ []) ++ 10 ∷ []) in
    let at = next adds (start adds _ _) (dropped-text why net) c.in_ok-put.ensures in
    let behind = next adds at (ap (λ w. spaced (w ∷ []) ++ rest) (sym c.why_word.ensures)) c.in_ok-put_word.ensures in
    stop adds (spaced (net ∷ []) ++ 10 ∷ []) _ _ behind refl c.in_err-put_literals.ensures c.from_residual-in_err-put_literals.ensures.1

pub returns-in_err-put_word-2 : goal.returns-in_err-put_word-2
returns-in_err-put_word-2 g c =
    let why = c.args.why in
    let net = c.args.net.now in
    let rest = spaced (why_numbers why) ++ (spaced (net ∷ []) ++ 10 ∷ []) in
    let at = next adds (start adds _ _) (dropped-text why net) c.in_ok-put.ensures in
    let behind = next adds at (ap (λ w. spaced (w ∷ []) ++ rest) (sym c.why_word.ensures)) c.in_ok-put_word.ensures in
    stop adds (10 ∷ []) _ _ (next adds behind refl c.in_ok-put_literals.ensures) refl c.in_err-put_word-2.ensures c.from_residual-in_err-put_word-2.ensures.1

pub returns : goal.returns
returns g c =
    let why = c.args.why in
    let net = c.args.net.now in
    let rest = spaced (why_numbers why) ++ (spaced (net ∷ []) ++ 10 ∷ []) in
    let at = next adds (start adds _ _) (dropped-text why net) c.in_ok-put.ensures in
    let behind = next adds at (ap (λ w. spaced (w ∷ []) ++ rest) (sym c.why_word.ensures)) c.in_ok-put_word.ensures in
    last adds (next adds (next adds behind refl c.in_ok-put_literals.ensures) refl c.in_ok-put_word-2.ensures) c.put-2.ensures

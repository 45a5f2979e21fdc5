use Rattle.std.proofs.Common.{[], ◌∷◌, ◌++◌, codes, refl, sym, ap}
use Rattle.mv_base.proofs.Gains.{start, next, stop, last}
use Rattle.mv_page.proofs.Adding.{adds}
use Rattle.mv_lex.specs.Text.{spaced}
use Rattle.mv_entry.specs.Entries.{set_word}
use Rattle.mv_entry.proofs.Texts.{fill-text}
use Rattle.mv_entry.proofs.rule_text.put_fill.Goals as goal

pub returns-in_err-put : goal.returns-in_err-put
returns-in_err-put g c =
    let tail = codes " " ++ (set_word c.args.out.now ++ 10 ∷ []) in
    stop adds (spaced (c.args.net.now ∷ []) ++ tail) _ _ (start adds _ _) (fill-text c.args.net.now c.args.out.now) c.in_err-put.ensures c.from_residual.ensures.1

pub returns-in_err-put_word : goal.returns-in_err-put_word
returns-in_err-put_word g c =
    let tail = codes " " ++ (set_word c.args.out.now ++ 10 ∷ []) in
    let at = next adds (start adds _ _) (fill-text c.args.net.now c.args.out.now) c.in_ok-put.ensures in
    stop adds tail _ _ at refl c.in_err-put_word.ensures c.from_residual-in_err-put_word.ensures.1

pub returns-in_err-put-2 : goal.returns-in_err-put-2
returns-in_err-put-2 g c =
    let at = next adds (start adds _ _) (fill-text c.args.net.now c.args.out.now) c.in_ok-put.ensures in
    let named = next adds at refl c.in_ok-put_word.ensures in
    stop adds (set_word c.args.out.now ++ 10 ∷ []) _ _ named refl c.in_err-put-2.ensures c.from_residual-in_err-put-2.ensures.1

pub returns-in_err-put_set : goal.returns-in_err-put_set
returns-in_err-put_set g c =
    let at = next adds (start adds _ _) (fill-text c.args.net.now c.args.out.now) c.in_ok-put.ensures in
    let behind = next adds (next adds at refl c.in_ok-put_word.ensures) refl c.in_ok-put-2.ensures in
    let set = ap (λ s. set_word s ++ 10 ∷ []) (sym c.get.ensures) in
    stop adds (10 ∷ []) _ _ behind set c.in_err-put_set.ensures c.from_residual-in_err-put_set.ensures.1

pub returns : goal.returns
returns g c =
    let at = next adds (start adds _ _) (fill-text c.args.net.now c.args.out.now) c.in_ok-put.ensures in
    let behind = next adds (next adds at refl c.in_ok-put_word.ensures) refl c.in_ok-put-2.ensures in
    let set = ap (λ s. set_word s ++ 10 ∷ []) (sym c.get.ensures) in
    last adds (next adds behind set c.in_ok-put_set.ensures) c.put-3.ensures

use Rattle.std.proofs.Common.{◌≡◌, [], ◌∷◌, ◌++◌, codes, decimal, refl, sym}
use Rattle.mv_base.proofs.Gains.{start, next, stop, last}
use Rattle.mv_page.proofs.Adding.{adds}
use Rattle.mv_lex.specs.Text.{spaced}
use Rattle.mv_entry.proofs.Texts.{line_text-named}
use Rattle.mv_entry.proofs.rule_text.put_narrow.Goals as goal

pub returns-in_err-put : goal.returns-in_err-put
returns-in_err-put g c =
    let numbers = decimal c.args.d ∷ decimal c.args.u ∷ [] in
    stop adds (spaced (c.args.net.now ∷ []) ++ (spaced numbers ++ 10 ∷ [])) _ _ (start adds _ _) (line_text-named (codes "narrow") c.args.net.now numbers) c.in_err-put.ensures c.from_residual.ensures.1

pub returns-in_err-put_word : goal.returns-in_err-put_word
returns-in_err-put_word g c =
    let numbers = decimal c.args.d ∷ decimal c.args.u ∷ [] in
    let at = next adds (start adds _ _) (line_text-named (codes "narrow") c.args.net.now numbers) c.in_ok-put.ensures in
    stop adds (spaced numbers ++ 10 ∷ []) _ _ at refl c.in_err-put_word.ensures c.from_residual-in_err-put_word.ensures.1

pub returns-in_err-put_numbers : goal.returns-in_err-put_numbers
returns-in_err-put_numbers g c =
    let numbers = decimal c.args.d ∷ decimal c.args.u ∷ [] in
    let at = next adds (start adds _ _) (line_text-named (codes "narrow") c.args.net.now numbers) c.in_ok-put.ensures in
    let are : spaced numbers ++ 10 ∷ [] ≡ spaced (decimal c.from.result ∷ decimal c.from-2.result ∷ []) ++ 10 ∷ [] = λ i. spaced (decimal (sym c.from.ensures i) ∷ decimal (sym c.from-2.ensures i) ∷ []) ++ 10 ∷ [] in
    stop adds (10 ∷ []) _ _ (next adds at refl c.in_ok-put_word.ensures) are c.in_err-put_numbers.ensures c.from_residual-in_err-put_numbers.ensures.1

pub returns : goal.returns
returns g c =
    let numbers = decimal c.args.d ∷ decimal c.args.u ∷ [] in
    let at = next adds (start adds _ _) (line_text-named (codes "narrow") c.args.net.now numbers) c.in_ok-put.ensures in
    let are : spaced numbers ++ 10 ∷ [] ≡ spaced (decimal c.from.result ∷ decimal c.from-2.result ∷ []) ++ 10 ∷ [] = λ i. spaced (decimal (sym c.from.ensures i) ∷ decimal (sym c.from-2.ensures i) ∷ []) ++ 10 ∷ [] in
    last adds (next adds (next adds at refl c.in_ok-put_word.ensures) are c.in_ok-put_numbers.ensures) c.put-2.ensures

use Rattle.std.proofs.Common.{[], ◌∷◌, ◌++◌, codes, refl, sym, ap}
use Rattle.std.specs.List.{flat_map}
use Rattle.mv_base.proofs.Gains.{start, next, stop, last}
use Rattle.mv_page.proofs.Adding.{adds}
use Rattle.mv_lex.specs.Text.{spaced}
use Rattle.mv_entry.specs.Entries.{lit_words, set_word}
use Rattle.mv_entry.proofs.Texts.{line-text}
use Rattle.mv_entry.proofs.rule_text.put_line.Goals as goal

pub returns-in_err-put : goal.returns-in_err-put
returns-in_err-put g c =
    let l = c.args.line.now in
    stop adds (spaced (flat_map lit_words l.lits) ++ (codes " -> " ++ (set_word l.out ++ 10 ∷ []))) _ _ (start adds _ _) (line-text l) c.in_err-put.ensures c.from_residual.ensures.1

pub returns-in_err-put_literals : goal.returns-in_err-put_literals
returns-in_err-put_literals g c =
    let l = c.args.line.now in
    let tail = codes " -> " ++ (set_word l.out ++ 10 ∷ []) in
    let words = ap (λ ls. spaced (flat_map lit_words ls) ++ tail) (sym c.as_slice.ensures) in
    let at = next adds (start adds _ _) (line-text l) c.in_ok-put.ensures in
    stop adds tail _ _ at words c.in_err-put_literals.ensures c.from_residual-in_err-put_literals.ensures.1

pub returns-in_err-put-2 : goal.returns-in_err-put-2
returns-in_err-put-2 g c =
    let l = c.args.line.now in
    let tail = codes " -> " ++ (set_word l.out ++ 10 ∷ []) in
    let words = ap (λ ls. spaced (flat_map lit_words ls) ++ tail) (sym c.as_slice.ensures) in
    let at = next adds (next adds (start adds _ _) (line-text l) c.in_ok-put.ensures) words c.in_ok-put_literals.ensures in
    stop adds (set_word l.out ++ 10 ∷ []) _ _ at refl c.in_err-put-2.ensures c.from_residual-in_err-put-2.ensures.1

pub returns-in_err-put_set : goal.returns-in_err-put_set
returns-in_err-put_set g c =
    let l = c.args.line.now in
    let tail = codes " -> " ++ (set_word l.out ++ 10 ∷ []) in
    let words = ap (λ ls. spaced (flat_map lit_words ls) ++ tail) (sym c.as_slice.ensures) in
    let at = next adds (next adds (start adds _ _) (line-text l) c.in_ok-put.ensures) words c.in_ok-put_literals.ensures in
    stop adds (10 ∷ []) _ _ (next adds at refl c.in_ok-put-2.ensures) (ap (λ s. set_word s ++ 10 ∷ []) (sym c.get.ensures)) c.in_err-put_set.ensures c.from_residual-in_err-put_set.ensures.1

pub returns : goal.returns
returns g c =
    let l = c.args.line.now in
    let tail = codes " -> " ++ (set_word l.out ++ 10 ∷ []) in
    let words = ap (λ ls. spaced (flat_map lit_words ls) ++ tail) (sym c.as_slice.ensures) in
    let at = next adds (next adds (start adds _ _) (line-text l) c.in_ok-put.ensures) words c.in_ok-put_literals.ensures in
    last adds (next adds (next adds at refl c.in_ok-put-2.ensures) (ap (λ s. set_word s ++ 10 ∷ []) (sym c.get.ensures)) c.in_ok-put_set.ensures) c.put-3.ensures

use Rattle.std.proofs.Common.{[], ◌∷◌, ◌++◌, refl}
use Rattle.mv_base.proofs.Gains.{start, next, stop, last}
use Rattle.mv_page.proofs.Adding.{adds}
use Rattle.mv_lex.specs.Text.{spaced}
use Rattle.mv_entry.proofs.Texts.{line_text-first}
use Rattle.mv_entry.proofs.words.put_pair.Goals as goal

pub returns-in_err-put : goal.returns-in_err-put
returns-in_err-put g c =
    stop adds (spaced (c.args.second.now ∷ []) ++ 10 ∷ []) _ _ (start adds _ _) (line_text-first c.args.first.now (c.args.second.now ∷ [])) c.in_err-put.ensures c.from_residual.ensures.1

pub returns-in_err-put_word : goal.returns-in_err-put_word
returns-in_err-put_word g c =
    stop adds (10 ∷ []) _ _ (next adds (start adds _ _) (line_text-first c.args.first.now (c.args.second.now ∷ [])) c.in_ok-put.ensures) refl c.in_err-put_word.ensures c.from_residual-in_err-put_word.ensures.1

pub returns : goal.returns
returns g c =
    last adds (next adds (next adds (start adds _ _) (line_text-first c.args.first.now (c.args.second.now ∷ [])) c.in_ok-put.ensures) refl c.in_ok-put_word.ensures) c.put-2.ensures

use Rattle.std.proofs.Common.{[], ◌∷◌, ◌++◌, codes, refl}
use Rattle.mv_lex.specs.Text.{spaced}
use Rattle.mv_text.specs.Text.{names_of}
use Rattle.mv_base.proofs.Gains.{start, next, stop, last}
use Rattle.mv_page.proofs.Adding.{adds}
use Rattle.mv_blif_write.proofs.TableText.{head-text}
use Rattle.mv_blif_write.proofs.tables.put_head.Goals as goal

pub returns-in_err-put : goal.returns-in_err-put
returns-in_err-put g c =
    let names = names_of c.args.net.now.nets c.args.fanins.now in
    stop adds (spaced names ++ ((codes " " ++ c.args.name.now) ++ 10 ∷ [])) _ _ (start adds _ _) (head-text names c.args.name.now) c.in_err-put.ensures c.from_residual.ensures.1

pub returns-in_err-put_names : goal.returns-in_err-put_names
returns-in_err-put_names g c =
    let names = names_of c.args.net.now.nets c.args.fanins.now in
    let at = next adds (start adds _ _) (head-text names c.args.name.now) c.in_ok-put.ensures in
    stop adds ((codes " " ++ c.args.name.now) ++ 10 ∷ []) _ _ at refl c.in_err-put_names.ensures c.from_residual-in_err-put_names.ensures.1

pub returns-in_err-put_both : goal.returns-in_err-put_both
returns-in_err-put_both g c =
    let names = names_of c.args.net.now.nets c.args.fanins.now in
    let at = next adds (start adds _ _) (head-text names c.args.name.now) c.in_ok-put.ensures in
    stop adds (10 ∷ []) _ _ (next adds at refl c.in_ok-put_names.ensures) refl c.in_err-put_both.ensures c.from_residual-in_err-put_both.ensures.1

pub returns : goal.returns
returns g c =
    let names = names_of c.args.net.now.nets c.args.fanins.now in
    let at = next adds (start adds _ _) (head-text names c.args.name.now) c.in_ok-put.ensures in
    last adds (next adds (next adds at refl c.in_ok-put_names.ensures) refl c.in_ok-put_both.ensures) c.put-2.ensures

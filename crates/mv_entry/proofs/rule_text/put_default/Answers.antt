use Rattle.std.proofs.Common.{[], ◌∷◌, ◌++◌, refl}
use Rattle.mv_base.proofs.Gains.{start, next, stop, last}
use Rattle.mv_page.proofs.Adding.{adds}
use Rattle.mv_entry.specs.Entries.{set_word}
use Rattle.mv_entry.proofs.Texts.{default-text}
use Rattle.mv_entry.proofs.rule_text.put_default.Goals as goal

pub returns-in_err-put-in-Some : goal.returns-in_err-put-in-Some
returns-in_err-put-in-Some g c =
    let set = c.in-Some.set in
    stop adds (set_word set ++ 10 ∷ []) _ _ (start adds _ _) (default-text c.args.default set c.in-Some.is) c.in_err-put-in-Some.ensures c.from_residual.ensures.1

pub returns-in_err-put_set-in-Some : goal.returns-in_err-put_set-in-Some
returns-in_err-put_set-in-Some g c =
    let at = next adds (start adds _ _) (default-text c.args.default c.in-Some.set c.in-Some.is) c.in_ok-put-in-Some.ensures in
    stop adds (10 ∷ []) _ _ at refl c.in_err-put_set-in-Some.ensures c.from_residual-in_err-put_set-in-Some.ensures.1

pub returns-in_ok-put_set-in-Some : goal.returns-in_ok-put_set-in-Some
returns-in_ok-put_set-in-Some g c =
    let at = next adds (start adds _ _) (default-text c.args.default c.in-Some.set c.in-Some.is) c.in_ok-put-in-Some.ensures in
    last adds (next adds at refl c.in_ok-put_set-in-Some.ensures) c.put-in-Some.ensures

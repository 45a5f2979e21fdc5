use Rattle.std.proofs.Common.{[], ◌∷◌, ◌++◌}
use Rattle.mv_base.proofs.Gains.{start, next, stop, last}
use Rattle.mv_page.proofs.Adding.{adds}
use Rattle.mv_net.specs.Nets.{slot, spelled_in}
use Rattle.mv_text.specs.Text.{entry_word}
use Rattle.mv_write.proofs.Parts.{default-text}
use Rattle.mv_write.proofs.tables.put_default.Goals as goal

pub returns-in_err-put-in-Some : goal.returns-in_err-put-in-Some
returns-in_err-put-in-Some g c =
    let values = spelled_in (slot c.args.net.now.nets c.args.n.0) in
    stop adds (entry_word values c.in-Some.set ++ 10 ∷ []) _ _ (start adds _ _) (default-text values c.args.default.now c.in-Some.set c.in-Some.is) c.in_err-put-in-Some.ensures c.from_residual.ensures.1

pub returns-in_ok-put-in-Some : goal.returns-in_ok-put-in-Some
returns-in_ok-put-in-Some g c =
    let values = spelled_in (slot c.args.net.now.nets c.args.n.0) in
    last adds (next adds (start adds _ _) (default-text values c.args.default.now c.in-Some.set c.in-Some.is) c.in_ok-put-in-Some.ensures) c.put_entry.ensures

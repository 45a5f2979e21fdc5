use Rattle.std.proofs.Common.{[], ◌∷◌, ◌++◌, codes, decimal, refl}
use Rattle.mv_lex.specs.Text.{spaced}
use Rattle.mv_base.proofs.Gains.{start, next, stop, last}
use Rattle.mv_page.proofs.Adding.{adds}
use Rattle.mv_net.specs.Nets.{slot, name_in}
use Rattle.mv_blif_text.specs.BlifText.{kind_words}
use Rattle.mv_blif_write.proofs.LatchText.{latch-text}
use Rattle.mv_blif_write.proofs.latches.put_latch.Goals as goal

pub returns-in_err-put_both : goal.returns-in_err-put_both
returns-in_err-put_both g c =
    let b = c.args.said.now in
    let output = name_in (slot c.args.net.now.nets c.args.latch.output.0) in
    let said = spaced (kind_words b.kind b.control ++ decimal b.init ∷ []) in
    stop adds ((codes " " ++ output) ++ (said ++ 10 ∷ [])) _ _ (start adds _ _) (latch-text c.args.net.now.nets c.args.latch b c.name.result.now output c.name.ensures refl) c.in_err-put_both.ensures c.from_residual.ensures.1

pub returns-in_err-put_both-2 : goal.returns-in_err-put_both-2
returns-in_err-put_both-2 g c =
    let b = c.args.said.now in
    let said = spaced (kind_words b.kind b.control ++ decimal b.init ∷ []) in
    let text = latch-text c.args.net.now.nets c.args.latch b c.name.result.now c.name-2.result.now c.name.ensures c.name-2.ensures in
    stop adds (said ++ 10 ∷ []) _ _ (next adds (start adds _ _) text c.in_ok-put_both.ensures) refl c.in_err-put_both-2.ensures c.from_residual-in_err-put_both-2.ensures.1

pub returns-in_err-put_settings : goal.returns-in_err-put_settings
returns-in_err-put_settings g c =
    let text = latch-text c.args.net.now.nets c.args.latch c.args.said.now c.name.result.now c.name-2.result.now c.name.ensures c.name-2.ensures in
    let at = next adds (next adds (start adds _ _) text c.in_ok-put_both.ensures) refl c.in_ok-put_both-2.ensures in
    stop adds (10 ∷ []) _ _ at refl c.in_err-put_settings.ensures c.from_residual-in_err-put_settings.ensures.1

pub returns : goal.returns
returns g c =
    let text = latch-text c.args.net.now.nets c.args.latch c.args.said.now c.name.result.now c.name-2.result.now c.name.ensures c.name-2.ensures in
    let at = next adds (next adds (start adds _ _) text c.in_ok-put_both.ensures) refl c.in_ok-put_both-2.ensures in
    last adds (next adds at refl c.in_ok-put_settings.ensures) c.put.ensures

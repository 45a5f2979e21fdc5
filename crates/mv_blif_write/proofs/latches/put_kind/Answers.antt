use Rattle.std.proofs.Common.{◌++◌, codes, refl, sym}
use Rattle.mv_base.proofs.Gains.{start, next, stop, last, same}
use Rattle.mv_page.proofs.Adding.{adds}
use Rattle.mv_blif_text.specs.BlifText.{control_word}
use Rattle.mv_blif_write.proofs.LatchText.{no_kind-text, kind-text}
use Rattle.mv_blif_write.proofs.latches.put_kind.Goals as goal

pub returns-in-None : goal.returns-in-None
returns-in-None g c =
    same adds (sym (no_kind-text c.args.latch.now.kind c.args.latch.now.control c.in-None.is)) (adds.nothing _)

pub returns-in_err-put_both-in-Some : goal.returns-in_err-put_both-in-Some
returns-in_err-put_both-in-Some g c =
    let control = c.args.latch.now.control in
    let text = kind-text c.args.latch.now.kind control c.in-Some.kind c.kind_word.result.now (control_word control) c.in-Some.is c.kind_word.ensures refl in
    stop adds (codes " " ++ control_word control) _ _ (start adds _ _) text c.in_err-put_both-in-Some.ensures c.from_residual.ensures.1

pub returns-in_ok-put_both-in-Some : goal.returns-in_ok-put_both-in-Some
returns-in_ok-put_both-in-Some g c =
    let text = kind-text c.args.latch.now.kind c.args.latch.now.control c.in-Some.kind c.kind_word.result.now c.control_word.result.now c.in-Some.is c.kind_word.ensures c.control_word.ensures in
    last adds (next adds (start adds _ _) text c.in_ok-put_both-in-Some.ensures) c.put_both-in-Some.ensures

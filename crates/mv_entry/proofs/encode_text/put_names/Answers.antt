use Rattle.std.proofs.Common.{◌∙◌, ◌+◌, [], ◌∷◌, ◌++◌, drop, sym, ap}
use Rattle.mv_base.proofs.Gains.{next, stop, finish}
use Rattle.mv_page.proofs.Adding.{adds}
use Rattle.mv_lex.specs.Text.{spaced}
use Rattle.mv_entry.proofs.Texts.{names-more, names-none}
use Rattle.mv_entry.proofs.encode_text.put_names.Goals as goal

pub returns-in_err-put_word : goal.returns-in_err-put_word
returns-in_err-put_word g c =
    let list = c.args.names.now in
    let i = c.loop-name.name-index in
    let rest = spaced (drop (i + 1) list) in
    let text = names-more list i c.name-item.result c.loop-name-test.true c.name-item.is ∙ ap (λ w. spaced (w ∷ []) ++ rest) (sym c.bytes.ensures) in
    stop adds rest _ _ c.loop-name.invariant text c.in_err-put_word.ensures c.from_residual.ensures.1

pub loop-name-preserved : goal.loop-name-preserved
loop-name-preserved g c =
    let list = c.args.names.now in
    let i = c.loop-name.name-index in
    let rest = spaced (drop (i + 1) list) in
    let text = names-more list i c.name-item.result c.loop-name-test.true c.name-item.is ∙ ap (λ w. spaced (w ∷ []) ++ rest) (sym c.bytes.ensures) in
    next adds c.loop-name.invariant text c.in_ok-put_word.ensures

pub returns : goal.returns
returns g c = finish adds c.loop-name.invariant (names-none c.args.names.now c.loop-name.name-index c.loop-name-test.false)

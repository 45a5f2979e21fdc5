use Rattle.std.proofs.Common.{◌≡◌, ◌∙◌, ◌∷◌, ◌++◌, [], sym, ap}
use Rattle.mv_base.proofs.Gains.{start, next, stop, last}
use Rattle.mv_page.proofs.Adding.{adds}
use Rattle.mv_net.specs.Nets.{slot, spelled_in, spelled_values}
use Rattle.mv_text.specs.Text.{entry_word}
use Rattle.mv_write.proofs.Spelling.{spelled-is, are-values}
use Rattle.mv_write.proofs.entries.put_any.Goals as goal

pub put_set-requires-clause-values : goal.put_set-requires-clause-values
put_set-requires-clause-values g c =
    rw (c.values.ensures, c.value_names.ensures) (are-values c.args.net.now c.args.n.0 c.well_formed-2.ensures c.requires.held)

pub returns-in_err-put_set : goal.returns-in_err-put_set
returns-in_err-put_set g c =
    let f = slot c.args.net.now.nets c.args.n.0 in
    let spelled : spelled_values c.values.result c.value_names.result.now ≡ spelled_in f =
    (λ i. spelled_values (c.values.ensures i) (c.value_names.ensures i)) ∙ spelled-is f c.requires.held in
    let text = ap (λ values. entry_word values c.args.set ++ c.args.behind ∷ []) (sym spelled) in
    stop adds (c.args.behind ∷ []) _ _ (start adds _ _) text c.in_err-put_set.ensures c.from_residual.ensures.1

pub returns : goal.returns
returns g c =
    let f = slot c.args.net.now.nets c.args.n.0 in
    let spelled : spelled_values c.values.result c.value_names.result.now ≡ spelled_in f =
    (λ i. spelled_values (c.values.ensures i) (c.value_names.ensures i)) ∙ spelled-is f c.requires.held in
    let text = ap (λ values. entry_word values c.args.set ++ c.args.behind ∷ []) (sym spelled) in
    last adds (next adds (start adds _ _) text c.in_ok-put_set.ensures) c.put.ensures

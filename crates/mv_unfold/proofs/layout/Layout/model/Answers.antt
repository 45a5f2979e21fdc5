use Rattle.std.proofs.Common.{◌<◌, length, get_or, sym, ◌∙◌, ap, subst}
use Rattle.mv_unfold.specs.Placed.{model_at}
use Rattle.mv_unfold.proofs.Laid.{laid_model}
use Rattle.mv_unfold.proofs.layout.Layout.model.Goals as goal

pub returns-clause-below : goal.returns-clause-below
returns-clause-below c =
    let l = c.args.self.now in
    subst (λ ks. get_or ks c.args.number 0 < length l.design.now.models) (sym c.as_slice.ensures) (laid_model l c.args.number c.requires.laid c.requires.number).below

pub returns-clause-is : goal.returns-clause-is
returns-clause-is c =
    let l = c.args.self.now in
    (laid_model l c.args.number c.requires.laid c.requires.number).is
    ∙ ap (λ ks. model_at l.design.now (get_or ks c.args.number 0)) (sym c.as_slice.ensures)

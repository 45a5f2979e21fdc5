-- The first binding of the formal.
use Rattle.std.proofs.Common.{Some, get_or, sym, ◌∙◌, ap}
use Rattle.mv_design.specs.declared.design.Bind.{Bind}
use Rattle.mv_design.specs.declared.design.Instance.{Instance}
use Rattle.mv_unfold.specs.Laid.{laid_instance}
use Rattle.mv_unfold.proofs.Found.{actual_found, actual_none}
use Rattle.mv_unfold.proofs.layout.Layout.actual.Goals as goal

pub returns-in-Some : goal.returns-in-Some
returns-in-Some c =
    let binds = c.as_slice.ensures ∙ ap (λ (x : Instance). x.binds) c.instance.ensures in
    let k = c.in-Some.place in
    ap (λ (b : Bind). Some b.actual) (sym c.index-as_slice-place.is)
    ∙ actual_found c.command.result.now.formals (laid_instance c.args.self.now c.args.number).binds c.args.net.now k c.index-as_slice-place.result c.command.ensures.formals
    (sym c.in-Some.ensures) (c.index-as_slice-place.is ∙ ap (λ bs. get_or bs k c.index-as_slice-place.result) binds)

pub returns-in-None : goal.returns-in-None
returns-in-None c =
    actual_none c.command.result.now.formals (laid_instance c.args.self.now c.args.number).binds c.args.net.now c.command.ensures.formals (sym c.in-None.ensures)

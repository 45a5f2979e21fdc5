-- The layout is that of the design.
use Rattle.std.proofs.Common.{sym, ◌∙◌, ap}
use Rattle.std.proofs.lemmas.Result.{err_from_is_err_and}
use Rattle.mv_fault.specs.Tells.{first}
use Rattle.mv_fault.proofs.Firsts.{told_of}
use Rattle.mv_fault.specs.declared.flat.FlatFault.TheVariants.{Memory}
use Rattle.mv_design.specs.declared.design.Design.{Design}
use Rattle.mv_design.specs.Nets.{root_of}
use Rattle.mv_tree.specs.Places.{homes, places}
use Rattle.mv_tree.specs.Unfolded.{joined}
use Rattle.mv_unfold.specs.Whole.{whole_faults}
use Rattle.mv_unfold.proofs.Checked.{held_list}
use Rattle.mv_unfold.proofs.Placed.{places_of_tree}
use Rattle.mv_unfold.proofs.model.joined_whole.Goals as goal

pub returns-in_err-nets-clause-faults : goal.returns-in_err-nets-clause-faults
returns-in_err-nets-clause-faults c = λ h.
    let l = c.in_ok-layout.layout in
    let d = c.args.design.now in
    let e = err_from_is_err_and c.from_residual-in_err-nets.result c.from_residual-in_err-nets.ensures.1 in
    rw (e.1, e.2)
    (told_of Memory _ (whole_faults (root_of l.design.now) h.tree) (whole_faults (root_of d) h.tree)
    (λ f x. ap (λ (y : Design). first (whole_faults (root_of y) h.tree)) (sym c.in_ok-layout.ensures.design) ∙ x)
    (c.in_err-nets.ensures.faults (held_list l d c.args.opened.now c.in_ok-layout.ensures.design c.in_ok-layout.ensures.opened h)))

pub returns-clause-faults : goal.returns-clause-faults
returns-clause-faults c = λ h.
    let l = c.in_ok-layout.layout in
    let k = held_list l c.args.design.now c.args.opened.now c.in_ok-layout.ensures.design c.in_ok-layout.ensures.opened h in
    ap (λ (d : Design). whole_faults (root_of d) h.tree) (sym c.in_ok-layout.ensures.design) ∙ c.in_ok-nets.ensures.faults k

pub returns-clause-model : goal.returns-clause-model
returns-clause-model c = λ h.
    let l = c.in_ok-layout.layout in
    let k = held_list l c.args.design.now c.args.opened.now c.in_ok-layout.ensures.design c.in_ok-layout.ensures.opened h in
    c.in_ok-model.ensures
    ∙ (ap (joined (root_of l.design.now)) (places_of_tree l.design.now l.opened.now k)
    ∙ ap (λ (d : Design). joined (root_of d) (places (root_of d) h.tree)) c.in_ok-layout.ensures.design)

pub returns-clause-nets : goal.returns-clause-nets
returns-clause-nets c = λ h.
    let l = c.in_ok-layout.layout in
    let k = held_list l c.args.design.now c.args.opened.now c.in_ok-layout.ensures.design c.in_ok-layout.ensures.opened h in
    c.in_ok-nets.ensures.nets k ∙ ap (λ (d : Design). homes (places (root_of d) h.tree)) c.in_ok-layout.ensures.design

-- The layout is that of the design.
use Rattle.std.proofs.Common.{◌≡◌, subst}
use Rattle.std.specs.Prelude.{IfOk}
use Rattle.mv_fault.specs.Tells.{TellsFirst}
use Rattle.mv_fault.specs.declared.flat.FlatFault.TheVariants.{Memory}
use Rattle.mv_design.specs.declared.design.Design.{Design}
use Rattle.mv_design.specs.Nets.{root_of}
use Rattle.mv_tree.specs.Places.{homes, places}
use Rattle.mv_unfold.specs.Whole.{whole_faults}
use Rattle.mv_unfold.proofs.Checked.{held_list}
use Rattle.mv_unfold.proofs.model.checked.Goals as goal

pub returns-clause-faults : goal.returns-clause-faults
returns-clause-faults c = λ h.
    let l = c.in_ok-layout.layout in
    let k = held_list l c.args.design.now c.args.opened.now c.in_ok-layout.ensures.design c.in_ok-layout.ensures.opened h in
    subst (λ (d : Design). TellsFirst Memory c.check_layout.result (whole_faults (root_of d) h.tree)) c.in_ok-layout.ensures.design (c.check_layout.ensures.faults k)

pub returns-clause-nets : goal.returns-clause-nets
returns-clause-nets c = λ h.
    let l = c.in_ok-layout.layout in
    let k = held_list l c.args.design.now c.args.opened.now c.in_ok-layout.ensures.design c.in_ok-layout.ensures.opened h in
    subst (λ (d : Design). IfOk c.check_layout.result (λ nets. nets ≡ homes (places (root_of d) h.tree))) c.in_ok-layout.ensures.design (c.check_layout.ensures.nets k)

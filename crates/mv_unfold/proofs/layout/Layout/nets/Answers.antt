use Rattle.std.proofs.Common.{sym, ◌∙◌, ap}
use Rattle.mv_tree.specs.Places.{all_nets}
use Rattle.mv_unfold.proofs.Laid.{nets_read}
use Rattle.mv_unfold.proofs.layout.Layout.nets.Goals as goal

pub returns : goal.returns
returns c =
    let l = c.args.self.now in
    nets_read l.design.now.models c.as_slice.result.now c.model.result c.index-as_slice-model.result (c.as_slice.ensures ∙ c.requires.laid.nets)
    c.model.ensures.below c.index-as_slice-model.is
    ∙ ap all_nets (sym c.model.ensures.is)

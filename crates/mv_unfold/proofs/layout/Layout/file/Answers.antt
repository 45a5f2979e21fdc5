use Rattle.std.proofs.Common.{sym, ◌∙◌}
use Rattle.mv_design.specs.Nets.{no_model}
use Rattle.mv_unfold.proofs.Laid.{read_as}
use Rattle.mv_unfold.proofs.layout.Layout.file.Goals as goal

pub returns : goal.returns
returns c =
    let l = c.args.self.now in
    read_as c.as_slice.result.now l.design.now.models c.model.result c.index-as_slice-model.result no_model c.as_slice.ensures c.model.ensures.below c.index-as_slice-model.is
    ∙ sym c.model.ensures.is

-- The root is one of the models.
use Rattle.std.proofs.Common.{◌∙◌, ap, get_or, List}
use Rattle.std.proofs.lemmas.List.{get_or_default}
use Rattle.mv_design.specs.declared.design.FileModel.{FileModel}
use Rattle.mv_design.specs.Nets.{root_of, no_model}
use Rattle.mv_unfold.proofs.model.into_root.Goals as goal

pub returns : goal.returns
unfolding root_of
returns c =
    let d = c.args.design in
    let model = c.swap_remove.result in
    c.swap_remove.ensures.value ∙ (ap (λ (models : List FileModel). get_or models d.root model) c.into_vec-models.ensures ∙ get_or_default d.models d.root model no_model c.requires)

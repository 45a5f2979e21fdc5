use Rattle.std.proofs.Common.{◌∙◌, sym, ap}
use Rattle.mv_design.specs.declared.design.FileModel.{FileModel}
use Rattle.mv_unfold.proofs.ByName.{next_named}
use Rattle.mv_unfold.proofs.by_name.FirstPlaces.of_models.Goals as goal

pub loop-place-preserved : goal.loop-place-preserved
loop-place-preserved c =
    next_named (λ (x : FileModel). x.name) c.loop-place.all c.add.new.self c.args.models.now c.loop-place.place c.index-models-place.result c.in_ok-copy.field-0
    c.loop-place.invariant c.loop-place-test.true c.index-models-place.is (c.in_ok-copy.ensures ∙ sym (ap (λ (x : FileModel). x.name) c.index-models-place.is)) c.in_ok-add.ensures

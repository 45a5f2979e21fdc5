-- The fault of the model, with the name in the whole.
use Rattle.std.proofs.Common.{◌∙◌, sym}
use Rattle.mv_design.specs.Nets.{no_model}
use Rattle.mv_unfold.specs.Laid.{places_of}
use Rattle.mv_unfold.specs.Placed.{place_at}
use Rattle.mv_unfold.proofs.Laid.{read_as}
use Rattle.mv_unfold.proofs.Looked.{placed_none, placed_first}
use Rattle.mv_unfold.proofs.resets.check_place.Goals as goal

pub returns-in-Ok : goal.returns-in-Ok
returns-in-Ok c =
    let l = c.args.layout.now in
    let model = read_as c.as_slice.result.now l.design.now.models c.model.result c.index-as_slice-model.result no_model c.as_slice.ensures c.model.ensures.below c.index-as_slice-model.is in
    placed_none (place_at (places_of l) c.args.number) c.index-as_slice-model.result (c.model.ensures.is ∙ sym model) c.in-Ok.ensures

pub returns-in_ok-placed_fault-in-Err : goal.returns-in_ok-placed_fault-in-Err
returns-in_ok-placed_fault-in-Err c =
    let l = c.args.layout.now in
    let model = read_as c.as_slice.result.now l.design.now.models c.model.result c.index-as_slice-model.result no_model c.as_slice.ensures c.model.ensures.below c.index-as_slice-model.is in
    placed_first (place_at (places_of l) c.args.number) c.index-as_slice-model.result c.in-Err.fault c.in_ok-placed_fault-in-Err.field-0 (c.model.ensures.is ∙ sym model)
    c.in_ok-placed_fault-in-Err.ensures c.in-Err.ensures

use Rattle.std.proofs.Common.{◌≡◌, take}
use Rattle.std.specs.List.{flat_map}
use Rattle.mv_design.specs.declared.design.FileModel.{FileModel}
use Rattle.mv_flat.proofs.shared.tables.Given as goal

abbrev pub invariant-loop-model : goal.invariant-loop-model
invariant-loop-model l =
    l.tables.items ≡ flat_map (λ (m : FileModel). m.tables) (take l.model-index l.models)

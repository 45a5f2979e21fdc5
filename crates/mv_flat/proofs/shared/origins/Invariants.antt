use Rattle.std.proofs.Common.{◌≡◌, take}
use Rattle.std.specs.List.{flat_map}
use Rattle.mv_unfold.specs.Laid.{model_numbers}
use Rattle.mv_flat.specs.Shared.{origins_of}
use Rattle.mv_flat.proofs.shared.origins.Given as goal

abbrev pub invariant-loop-instance : goal.invariant-loop-instance
invariant-loop-instance l =
    l.origins.items ≡ flat_map (origins_of l.design.models) (model_numbers l.design (take l.instance-index l.opened))

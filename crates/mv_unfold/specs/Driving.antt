-- Which nets of each place are driven, by it and from inside it.
use Rattle.std.specs.Prelude.{ℕ, List, [], ◌∷◌, ◌++◌}
use Rattle.mv_design.specs.declared.design.FileModel.{FileModel}
use Rattle.mv_tree.specs.Tree.{Instances, NoMore, More}
use Rattle.mv_tree.specs.Places.{Place, root_place, place_in}
use Rattle.mv_unfold.specs.Driven.{driven_in}

-- a place, and those nets of its model that are driven by it or from inside it, as often as they
-- are
pub record Driving : Type 0 where
  pub place : Place
  pub driven : List (List ℕ)

-- the same of the instances inside a place
abbrev pub drivings_in : Place → Instances → List Driving
drivings_in round NoMore = []
drivings_in round (More instance model inside rest) =
    record { place = place_in round instance model; driven = driven_in model inside }
    ∷ (drivings_in (place_in round instance model) inside ++ drivings_in round rest)

-- the same of the root, whose inputs are driven, and of all instances
abbrev pub drivings : FileModel → Instances → List Driving
drivings root tree =
    record { place = root_place root; driven = root.inputs ++ driven_in root tree }
    ∷ drivings_in (root_place root) tree

-- What is found of the names of a list. For private functions.
use Rattle.std.specs.Prelude.{◌≡◌, ℕ, Option, List, map, length, slice_index_or}
use Rattle.std.specs.Option.{option_map}
use Rattle.mv_base.specs.Names.{place_of}
use Rattle.mv_design.specs.declared.design.Bind.{Bind}
use Rattle.mv_unfold.specs.declared.by_name.FirstPlaces.{FirstPlaces}

-- what is found of a name: the number that stands at its place
abbrev pub found_of : FirstPlaces → List ℕ → Option ℕ
found_of n w = option_map (λ k. slice_index_or n.numbers k 0) (place_of w n.names)

-- each name leads to the first place where it stands in a list
pub record FindsFirst (n : FirstPlaces) (ws : List (List ℕ)) : Type 0 where
  pub long : length n.numbers ≡ length n.names
  pub each : (w : List ℕ) → found_of n w ≡ place_of w ws

-- the formals of bindings
abbrev pub formals_bound : List Bind → List (List ℕ)
formals_bound binds = map (λ b. b.formal) binds

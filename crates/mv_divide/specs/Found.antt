-- What private functions alone cite: the tests by which cubes of a quotient are found, and where
-- the cubes of a cover stand.
use Rattle.std.specs.Prelude.{◌≡◌, ℕ, ◌<◌, Bool, false, ◌&&◌, ◌⊎◌, not, Option, Some, None, List, [], ◌∷◌, ◌++◌, slice_get, slice_index_or, map, filter, length, All, Contains, if◌then◌else◌}
use Rattle.std.specs.List.{list_any, list_all}
use Rattle.mv_cover.specs.Literal.{Lit}
use Rattle.mv_cover.specs.Cubes.{IsCube}
use Rattle.mv_cover.specs.Equal.{cube_eq}
use Rattle.mv_kernels.specs.Symbols.{has_symbol, has_each, cube_quotient}
use Rattle.mv_divide.specs.Numbers.{cube_number}

-- ---- joins

-- the cube has each symbol of d, and without them it is s
abbrev pub is_join : List Lit → List Lit → List Lit → Bool
is_join s d cube = has_each d cube && cube_eq (cube_quotient d cube) s

-- some cube of the cover is that
abbrev pub has_join : List (List Lit) → List Lit → List Lit → Bool
has_join cover s d = list_any (is_join s d) cover

-- there is a cube, and it is that
abbrev pub some_join : List Lit → List Lit → Option (List Lit) → Bool
some_join s d None = false
some_join s d (Some cube) = is_join s d cube

-- the cube at the place is that
abbrev pub join_at : List (List Lit) → List Lit → List Lit → ℕ → Bool
join_at cover s d place = some_join s d (slice_get cover place)

-- there is a place, and the cube there is that
abbrev pub join_at_some : List (List Lit) → List Lit → List Lit → Option ℕ → Bool
join_at_some cover s d None = false
join_at_some cover s d (Some place) = join_at cover s d place

-- ---- what is left

-- the cube has none of the symbols
abbrev pub is_apart : List Lit → List Lit → Bool
is_apart symbols s = list_all (λ l. not (has_symbol symbols l)) s

-- it is apart from each cube of the divisor
abbrev pub all_apart : List (List Lit) → List Lit → Bool
all_apart divisor s = list_all (λ d. is_apart d s) divisor

-- each cube of the divisor, joined to it, is a cube of the cover
abbrev pub all_join : List (List Lit) → List (List Lit) → List Lit → Bool
all_join cover divisor s = list_all (λ d. has_join cover s d) divisor

-- what is left of the cube without the symbols of the divisor's first cube is a cube of the
-- quotient
abbrev pub leaves : List (List Lit) → List (List Lit) → List Lit → List Lit → Bool
leaves cover divisor first cube =
    has_each first cube
    && (all_apart divisor (cube_quotient first cube)
    && all_join cover divisor (cube_quotient first cube))

-- what is left of the cube, if that is so
abbrev pub left_of : List (List Lit) → List (List Lit) → List Lit → List Lit → Option (List Lit)
left_of cover divisor first cube =
    if leaves cover divisor first cube then Some (cube_quotient first cube) else None

-- what is left of the cubes of which that is so
abbrev pub all_left : List (List Lit) → List (List Lit) → List Lit → List (List Lit)
    → List (List Lit)
all_left cover divisor first cubes =
    map (cube_quotient first) (filter (leaves cover divisor first) cubes)

-- ---- places

-- the places, and behind them this one, if there is one
abbrev pub and_place : List ℕ → Option ℕ → List ℕ
and_place places None = places
and_place places (Some place) = places ++ place ∷ []

-- each cube is the last one that has its number, or it stands among the earlier ones
pub record ArePlaced (cubes : List (List Lit)) (last : ℕ → Option ℕ) (earlier : List ℕ)
    : Type 0 where
  pub formed : All IsCube cubes
  pub placed : (p : ℕ) → p < length cubes
      → (last (cube_number (slice_index_or cubes p [])) ≡ Some p) ⊎ Contains earlier p

-- What two cubes of a list have in common, and what is saved where such a part is taken out of all
-- of them.
use Rattle.std.specs.Prelude.{◌≡◌, ◌≢◌, ◌<◌, ◌≤◌, ◌-◌, ◌*◌, ℕ, List, [], filter, length, slice_index_or}
use Rattle.std.specs.List.{count_by}
use Rattle.std.specs.declared.cmp.Ordering.TheVariants.{Greater}
use Rattle.mv_cover.specs.Literal.{Lit}
use Rattle.mv_kernels.specs.Symbols.{has_symbol, has_each}
use Rattle.mv_kernels.specs.Order.{cube_cmp}
use Rattle.mv_meets.specs.declared.search.Answer.{Answer}
use Rattle.mv_meets.specs.declared.search.Answer.TheVariants.{Best, NoneSaves, Unknown}

-- the symbols of a that b has too, in their order
abbrev pub common : List Lit → List Lit → List Lit
common a b = filter (has_symbol b) a

-- how many of the cubes have all symbols of d
abbrev pub count : List Lit → List (List Lit) → ℕ
count d cubes = count_by (has_each d) cubes

-- what taking d out of the cubes saves: one literal takes the place of its symbols in each cube,
-- and d is written once; 0 where that is nothing
abbrev pub saving : List Lit → List (List Lit) → ℕ
saving d cubes = count d cubes * (length d - 1) - length d

-- the cube at the place
abbrev pub at : List (List Lit) → ℕ → List Lit
at cubes place = slice_index_or cubes place []

-- the symbols that the cubes at two different places have in common, at least two
pub record IsMeet (cubes : List (List Lit)) (d : List Lit) : Type 0 where
  pub one : ℕ
  pub one_in : one < length cubes
  pub other : ℕ
  pub other_in : other < length cubes
  pub apart : one ≢ other
  pub is : common (at cubes one) (at cubes other) ≡ d
  pub two : 2 ≤ length d

-- of the common parts that save the most it is the least
pub record IsBestMeet (cubes : List (List Lit)) (d : List Lit) : Type 0 where
  pub meet : IsMeet cubes d
  pub some : 0 < saving d cubes
  pub most : (e : List Lit) → IsMeet cubes e → saving e cubes ≤ saving d cubes
  pub least : (e : List Lit) → IsMeet cubes e → saving e cubes ≡ saving d cubes
      → cube_cmp d e ≡ Greater → ⊥

-- no common part saves anything
pub record NoMeetSaves (cubes : List (List Lit)) : Type 0 where
  pub none : (e : List Lit) → IsMeet cubes e → saving e cubes ≡ 0

-- the best common part, or that none saves anything, or nothing
abbrev pub IsAnswer : List (List Lit) → Answer → Type 0
IsAnswer cubes (Best d) = IsBestMeet cubes d
IsAnswer cubes NoneSaves = NoMeetSaves cubes
IsAnswer cubes Unknown = Unit {0}

-- Cubes as sets of symbols, and covers as sets of cubes, after Brayton and McMullen: a literal is
-- one symbol, the pair of its net and its set, so that two sets on one net are two symbols that
-- have nothing to do with each other.
use Rattle.std.specs.Prelude.{Bool, not, List, map, filter, All, Contains}
use Rattle.std.specs.List.{list_any, list_all}
use Rattle.mv_cover.specs.Literal.{Lit}
use Rattle.mv_cover.specs.Equal.{lit_eq}

-- the cube has the symbol
abbrev pub has_symbol : List Lit → Lit → Bool
has_symbol cube l = list_any (λ m. lit_eq m l) cube

-- the cube has each of these symbols
abbrev pub has_each : List Lit → List Lit → Bool
has_each c cube = list_all (has_symbol cube) c

-- the cube without these symbols
abbrev pub cube_quotient : List Lit → List Lit → List Lit
cube_quotient c cube = filter (λ l. not (has_symbol c l)) cube

-- the quotient of a cover by these symbols: the cubes that have them all, without them
abbrev pub quotient : List (List Lit) → List Lit → List (List Lit)
quotient cover c = map (cube_quotient c) (filter (has_each c) cover)

-- each cube has the symbol
abbrev pub all_have : List (List Lit) → Lit → Bool
all_have cubes l = list_all (λ q. has_symbol q l) cubes

-- the lists have the same cubes
pub record SameCubes (a b : List (List Lit)) : Type 0 where
  pub there : All (Contains b) a
  pub back : All (Contains a) b

-- Weak division of a cover by a divisor, after Brayton and McMullen: the quotient has the cubes
-- which, joined to each cube of the divisor, are cubes of the cover. Covers and divisors are lists
-- of cubes, and a cube is a set of symbols.
use Rattle.std.specs.Prelude.{◌≡◌, true, false, ◌||◌, List, All, Contains}
use Rattle.mv_cover.specs.Literal.{Lit}
use Rattle.mv_cover.specs.Cubes.{IsCube}
use Rattle.mv_kernels.specs.Symbols.{has_symbol}
use Rattle.mv_kernels.specs.Order.{Ascend}

-- the cube has the symbols of both, and no others
pub record IsJoin (s d cube : List Lit) : Type 0 where
  pub each : (l : Lit) → has_symbol cube l ≡ (has_symbol s l || has_symbol d l)

-- the cube has none of the symbols
pub record IsApart (s symbols : List Lit) : Type 0 where
  pub none : (l : Lit) → has_symbol symbols l ≡ true → has_symbol s l ≡ false

-- joined to d it is a cube of the cover
pub record HasJoin (cover : List (List Lit)) (s d : List Lit) : Type 0 where
  pub cube : List Lit
  pub held : Contains cover cube
  pub join : IsJoin s d cube

-- a cube of the quotient: it has no symbol of the divisor, and joined to each cube of the divisor
-- it is a cube of the cover
pub record IsQuotientCube (cover divisor : List (List Lit)) (s : List Lit) : Type 0 where
  pub formed : IsCube s
  pub apart : All (IsApart s) divisor
  pub joins : All (HasJoin cover s) divisor

-- the quotient: these cubes in ascending order, each once
pub record IsQuotient (cover divisor quotient : List (List Lit)) : Type 0 where
  pub ascending : Ascend quotient
  pub each : All (IsQuotientCube cover divisor) quotient
  pub all : (s : List Lit) → IsQuotientCube cover divisor s → Contains quotient s

-- the cube is the join of a cube of the quotient to one of the divisor
pub record IsProduct (quotient divisor : List (List Lit)) (cube : List Lit) : Type 0 where
  pub left : List Lit
  pub left_in : Contains quotient left
  pub right : List Lit
  pub right_in : Contains divisor right
  pub join : IsJoin left right cube

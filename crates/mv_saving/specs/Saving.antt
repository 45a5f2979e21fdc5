-- What dividing a cover saves: the literals of its cubes, and of those that stay.
use Rattle.std.specs.Prelude.{◌≡◌, ℕ, ◌+◌, ◌*◌, Bool, true, false, List, filter, length, All, Contains}
use Rattle.std.specs.List.{sum_by, IsDistinct}
use Rattle.mv_cover.specs.Literal.{Lit}
use Rattle.mv_cover.specs.Cubes.{IsCube}
use Rattle.mv_cover.specs.Equal.{cube_eq}
use Rattle.mv_divide.specs.Division.{IsQuotient, IsProduct}

-- the literals of cubes, each of which counts one
abbrev pub literals : List (List Lit) → ℕ
literals cubes = sum_by (λ (c : List Lit). length c) cubes

-- the cubes of a list are cubes, each once
pub record AreCubes (cubes : List (List Lit)) : Type 0 where
  pub formed : All IsCube cubes
  pub distinct : IsDistinct cube_eq cubes

-- the cubes of the cover that are no products of the quotient and the divisor, in their order
pub record IsRest (cover divisor quotient rest : List (List Lit)) : Type 0 where
  pub stays : List Lit → Bool
  pub kept : (k : List Lit) → Contains cover k → stays k ≡ true → IsProduct quotient divisor k → ⊥
  pub gone : (k : List Lit) → Contains cover k → stays k ≡ false → IsProduct quotient divisor k
  pub is : rest ≡ filter stays cover

-- the literals of all joins of the quotient's cubes to those of the divisor
abbrev pub joined : List (List Lit) → List (List Lit) → ℕ
joined divisor quotient =
    sum_by (λ (d : List Lit). literals quotient + length quotient * length d) divisor

-- what the cover's division saves: its literals now less those after it, which are those of the
-- rest and those of the quotient's cubes with one more each
pub record IsSaving (cover divisor : List (List Lit)) (saved : ℕ) : Type 0 where
  pub quotient : List (List Lit)
  pub is : IsQuotient cover divisor quotient
  pub rest : List (List Lit)
  pub are : IsRest cover divisor quotient rest
  pub less : literals cover ≡ literals rest + (literals quotient + length quotient) + saved

-- The order of cubes: a cube is compared as the ascending list of its literals, and a literal by
-- the number of its net and then by its set as a number. A cube that another goes on from comes
-- before it.
use Rattle.std.specs.Prelude.{◌≡◌, List}
use Rattle.std.specs.Ordering.{nat_cmp, ordering_then}
use Rattle.std.specs.declared.cmp.Ordering.{Ordering}
use Rattle.std.specs.declared.cmp.Ordering.TheVariants.{Equal}
use Rattle.std.specs.Cmp.{IsTotalOrder}
use Rattle.std.specs.Cmp.Lexicographic.{slice_cmp}
use Rattle.std.specs.List.Sorted.{IsStrictlySortedBy}
use Rattle.mv_cover.specs.Literal.{Lit}

-- the net decides, and else the set
abbrev pub lit_cmp : Lit → Lit → Ordering
lit_cmp a b = ordering_then (nat_cmp a.net.0 b.net.0) (nat_cmp a.set b.set)

-- the first literals that differ decide, and else the lengths
abbrev pub cube_cmp : List Lit → List Lit → Ordering
cube_cmp a b = slice_cmp lit_cmp a b

-- the first cubes that differ decide, and else the lengths
abbrev pub cubes_cmp : List (List Lit) → List (List Lit) → Ordering
cubes_cmp a b = slice_cmp cube_cmp a b

-- a total order in which only equal ones tie
pub record IsOrder {K : Type 0} (R : K → K → Ordering) : Type 0 where
  pub total : IsTotalOrder R
  pub same : (a b : K) → R a b ≡ Equal → a ≡ b

-- each cube comes before all behind it, so that no two are equal
abbrev pub Ascend : List (List Lit) → Type 0
Ascend cubes = IsStrictlySortedBy cube_cmp cubes

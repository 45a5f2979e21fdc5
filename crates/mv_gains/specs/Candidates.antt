-- The common divisors that a network has, kernels and cubes, and which of them is the best one to
-- take out.
use Rattle.std.specs.Prelude.{◌≡◌, ◌≢◌, ◌<◌, ◌≤◌, ℕ, Option, Some, List, [], ◌∷◌, filter, length, slice_get, All, Contains}
use Rattle.std.specs.List.{flat_map, IsDistinct}
use Rattle.std.specs.declared.cmp.Ordering.TheVariants.{Greater}
use Rattle.mv_cover.specs.Literal.{Lit}
use Rattle.mv_cover.specs.Cubes.{IsCube}
use Rattle.mv_cover.specs.Equal.{cube_eq}
use Rattle.mv_cover.specs.declared.line.Line.{Line}
use Rattle.mv_net.specs.declared.parts.FlatNet.{FlatNet}
use Rattle.mv_net.specs.Nets.{slot}
use Rattle.mv_kernels.specs.Symbols.{has_symbol}
use Rattle.mv_kernels.specs.Order.{Ascend, cubes_cmp}
use Rattle.mv_kernels.specs.Kernels.{IsKernelOf, HasFew, HasMany}
use Rattle.mv_divide.specs.declared.part.Part.{Part}
use Rattle.mv_divide.specs.Tables.{parts_of}
use Rattle.mv_gains.specs.Gains.{lines_at, Saves}

-- ---- kernels

-- a cover of the table of net n: the cubes of its lines with one and the same output set
pub record IsCoverOf (nets : List (Option FlatNet)) (n : ℕ) (cover : List (List Lit)) : Type 0 where
  pub part : Part
  pub there : Contains (parts_of (lines_at (slot nets n))) part
  pub is : part.cover ≡ cover

-- a kernel of a cover of some table that has no more kernels than the limit; each of its cubes has
-- a symbol
pub record IsKernelCandidate (nets : List (Option FlatNet)) (kernel : List (List Lit))
    : Type 0 where
  pub net : ℕ
  pub cover : List (List Lit)
  pub there : IsCoverOf nets net cover
  pub few : HasFew cover
  pub is : IsKernelOf cover kernel
  pub symbols : All (λ (c : List Lit). 0 < length c) kernel

-- the table of net n has a cover of more kernels than the limit
pub record HasManyKernels (nets : List (Option FlatNet)) (n : ℕ) : Type 0 where
  pub cover : List (List Lit)
  pub there : IsCoverOf nets n cover
  pub many : HasMany cover

-- ---- cubes

-- the lines of all tables, by ascending number of net
abbrev pub all_lines : List (Option FlatNet) → List Line
all_lines nets = flat_map lines_at nets

-- the symbols of a that b has too, in their order
abbrev pub common : List Lit → List Lit → List Lit
common a b = filter (has_symbol b) a

-- the symbols that the lines at two different places have in common, at least two
pub record IsCubeCandidate (nets : List (Option FlatNet)) (divisor : List (List Lit)) : Type 0 where
  pub one : ℕ
  pub other : ℕ
  pub apart : one ≢ other
  pub first : Line
  pub first_at : slice_get (all_lines nets) one ≡ Some first
  pub second : Line
  pub second_at : slice_get (all_lines nets) other ≡ Some second
  pub is : divisor ≡ common first.cube second.cube ∷ []
  pub two : 2 ≤ length (common first.cube second.cube)

-- ---- both

-- the cube's literals all stand in one line of some table
pub record StandsIn (nets : List (Option FlatNet)) (cube : List Lit) : Type 0 where
  pub net : ℕ
  pub line : Line
  pub there : Contains (lines_at (slot nets net)) line
  pub each : All (Contains line.cube) cube

-- what each candidate is besides: some cubes in ascending order, each of some literals that stand
-- together in a line
pub record IsDivisorFor (nets : List (Option FlatNet)) (divisor : List (List Lit)) : Type 0 where
  pub some : 0 < length divisor
  pub ascending : Ascend divisor
  pub distinct : IsDistinct cube_eq divisor
  pub formed : All IsCube divisor
  pub literals : All (λ (c : List Lit). 0 < length c) divisor
  pub stand : All (StandsIn nets) divisor

-- what may be taken out of a network
abbrev pub Candidates : Type 1
Candidates = List (Option FlatNet) → List (List Lit) → Type 0

-- of the candidates that save the most it is the least
pub record IsBest (Candidate : Candidates) (nets : List (Option FlatNet))
    (divisor : List (List Lit)) : Type 0 where
  pub candidate : Candidate nets divisor
  pub saved : ℕ
  pub saves : Saves nets divisor saved
  pub most : (d : List (List Lit)) (s : ℕ) → Candidate nets d → Saves nets d s → s ≤ saved
  pub least : (d : List (List Lit)) → Candidate nets d → Saves nets d saved
      → cubes_cmp divisor d ≡ Greater → ⊥

-- no candidate saves anything
pub record NoneSaves (Candidate : Candidates) (nets : List (Option FlatNet)) : Type 0 where
  pub none : (d : List (List Lit)) (s : ℕ) → Candidate nets d → Saves nets d s → ⊥

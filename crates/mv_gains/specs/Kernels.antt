-- What private functions alone cite: the kernels of the covers of tables.
use Rattle.std.specs.Prelude.{◌≡◌, ◌<◌, ◌++◌, ℕ, false, List, [], length, map, slice_index_or, All, Contains}
use Rattle.mv_base.specs.declared.number.NetId.{NetId}
use Rattle.mv_cover.specs.Literal.{Lit}
use Rattle.mv_kernels.specs.declared.kernel.Kernel.{Kernel}
use Rattle.mv_kernels.specs.Kernels.{IsKernelOf, HasFew}
use Rattle.mv_divide.specs.declared.part.Part.{Part}
use Rattle.mv_graph.specs.Nets.{has_id}
use Rattle.mv_gains.specs.declared.kernels.Candidate.{Candidate}
use Rattle.mv_gains.specs.Grown.{IsOneOf}

-- the cube has a symbol
abbrev pub HasSome : List Lit → Type 0
HasSome c = 0 < length c

-- it is the kernel, and each of its cubes has a symbol
pub record IsSymbolic (kernel k : Kernel) : Type 0 where
  pub is : kernel ≡ k
  pub symbols : All HasSome kernel.cubes

-- a kernel of the cover, which has no more than the limit, and each of its cubes has a symbol
pub record IsKernelFrom (cover : List (List Lit)) (kernel : Kernel) : Type 0 where
  pub few : HasFew cover
  pub is : IsKernelOf cover kernel.cubes
  pub symbols : All HasSome kernel.cubes

-- such a kernel of the cover of an output set
abbrev pub IsKernelOfPart : Part → Kernel → Type 0
IsKernelOfPart p kernel = IsKernelFrom p.cover kernel

-- such a kernel of a cover of a table
abbrev pub IsKernelOfTable : List Part → Kernel → Type 0
IsKernelOfTable parts kernel = IsOneOf IsKernelOfPart parts kernel

-- a kernel of a table, of which nothing is known yet
abbrev pub new_candidate : NetId → Kernel → Candidate
new_candidate table kernel =
    record { kernel = kernel; table = table; key = table; seen = 0; saved = 0 }

-- the list has the candidate
pub record HasCandidate (list : List Candidate) (n : ℕ) (kernel : Kernel) : Type 0 where
  pub candidate : Candidate
  pub there : Contains list candidate
  pub table : candidate.table.0 ≡ n
  pub is : candidate.kernel ≡ kernel

-- the kernels of the table were added, of which nothing is known yet
pub record IsWithKernels (table : NetId) (parts : List Part) (old new : List Candidate)
    : Type 0 where
  pub kernels : List Kernel
  pub are : new ≡ old ++ map (new_candidate table) kernels
  pub each : (k : Kernel) → Contains kernels k → IsKernelOfTable parts k
  pub all : (k : Kernel) → IsKernelOfTable parts k → Contains kernels k

-- the candidates are kernels of the tables, and all of those but of the ones that wait
pub record AreCandidates (tables : List (List Part)) (waiting : List NetId) (list : List Candidate)
    : Type 0 where
  pub each : (c : Candidate) → Contains list c
      → IsKernelOfTable (slice_index_or tables c.table.0 []) c.kernel
  pub all : (n : ℕ) (k : Kernel) → has_id waiting n ≡ false
      → IsKernelOfTable (slice_index_or tables n []) k → HasCandidate list n k

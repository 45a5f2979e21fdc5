-- The steps by which kernels are found: from a cover by some symbols down to the kernel below.
use Rattle.std.specs.Prelude.{◌≡◌, ◌≢◌, ℕ, true, List, [], ◌∷◌, ◌++◌, filter, take, All, Contains}
use Rattle.mv_cover.specs.Literal.{Lit}
use Rattle.mv_kernels.specs.declared.kernel.Kernel.{Kernel}
use Rattle.mv_kernels.specs.Symbols.{has_each, quotient, all_have}
use Rattle.mv_kernels.specs.Kernels.{IsKernelBy, IsKernelOf}

-- the symbols of the first cube that all others have
abbrev pub common_of : List (List Lit) → List Lit
common_of [] = []
common_of (q ∷ qs) = filter (all_have qs) q

-- no two cubes differ
pub record HasOneCube (cubes : List (List Lit)) : Type 0 where
  pub one : (a b : List Lit) → Contains cubes a → Contains cubes b → a ≡ b

-- the kernel is the quotient by these symbols and by those that each cube has which has these
pub record IsBelow (cover : List (List Lit)) (c : List Lit) (kernel : List (List Lit))
    : Type 0 where
  pub common : List Lit
  pub is : IsKernelBy cover (c ++ common) kernel
  pub rows : All (λ q. has_each c q ≡ true → has_each (c ++ common) q ≡ true) cover

-- where two cubes of the quotient differ, the kernel below is among these
pub record HasBelow (cover : List (List Lit)) (c : List Lit) (kernels : List Kernel) : Type 0 where
  pub each : (a b : List Lit) → Contains (quotient cover c) a → Contains (quotient cover c) b
      → a ≢ b
      → (k : Kernel) × Contains kernels k × IsBelow cover c k.cubes

-- the kernels below the cover by each of these symbols
pub record AreBelowBy (cover : List (List Lit)) (symbols : List Lit) (kernels : List Kernel)
    : Type 0 where
  pub each : All (λ k. (l : Lit) × IsBelow cover (l ∷ []) k.cubes) kernels
  pub all : All (λ l. HasBelow cover (l ∷ []) kernels) symbols

-- the kernels below the cover by any single symbol
pub record AreBelow (cover : List (List Lit)) (kernels : List Kernel) : Type 0 where
  pub each : All (λ k. (l : Lit) × IsBelow cover (l ∷ []) k.cubes) kernels
  pub all : (l : Lit) → HasBelow cover (l ∷ []) kernels

-- kernels of the cover, with its own and with those below each of the first ones
pub record Walked (cover : List (List Lit)) (found : List Kernel) (passed : ℕ) : Type 0 where
  pub each : All (λ k. IsKernelOf cover k.cubes) found
  pub first : HasBelow cover [] found
  pub down : All (λ k. (l : Lit) → HasBelow k.cubes (l ∷ []) found) (take passed found)

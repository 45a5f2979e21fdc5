-- Kernels, after Brayton and McMullen: the quotients of a cover by any symbols that have at least
-- two cubes and no symbol in common. A kernel is said as the ascending list of its cubes, so that
-- equal kernels are equal lists.
use Rattle.std.specs.Prelude.{◌≡◌, ◌≢◌, ◌<◌, ◌≤◌, false, List, All, AllPairs, length}
use Rattle.mv_base.specs.declared.limits.TheConstants.{MAX_KERNELS}
use Rattle.mv_cover.specs.Literal.{Lit}
use Rattle.mv_kernels.specs.declared.kernel.Kernel.{Kernel}
use Rattle.mv_kernels.specs.Symbols.{quotient, all_have, SameCubes}
use Rattle.mv_kernels.specs.Order.{Ascend}

-- the kernel of the cover that its quotient by these symbols is
pub record IsKernelBy (cover : List (List Lit)) (c : List Lit) (kernel : List (List Lit))
    : Type 0 where
  pub ascending : Ascend kernel
  pub quotient : SameCubes kernel (quotient cover c)
  pub two : 2 ≤ length kernel
  pub free : (l : Lit) → all_have kernel l ≡ false

-- a kernel of the cover: its quotient by some symbols, which may be none, and needn't be those of
-- any cube
pub record IsKernelOf (cover kernel : List (List Lit)) : Type 0 where
  pub by : List Lit
  pub is : IsKernelBy cover by kernel

-- kernels of the cover of which no two are equal
pub record AreKernels (cover : List (List Lit)) (kernels : List Kernel) : Type 0 where
  pub each : All (λ k. IsKernelOf cover k.cubes) kernels
  pub once : AllPairs (λ a b. a ≢ b) kernels

-- the cover has no more different kernels than the limit
pub record HasFew (cover : List (List Lit)) : Type 0 where
  pub each : (kernels : List Kernel) → AreKernels cover kernels → length kernels ≤ MAX_KERNELS

-- the cover has more different kernels than the limit
pub record HasMany (cover : List (List Lit)) : Type 0 where
  pub kernels : List Kernel
  pub are : AreKernels cover kernels
  pub many : MAX_KERNELS < length kernels

-- The test of equality of kernels decides equality: the laws by which they can be keys.
use Rattle.std.proofs.Common.{◌≡◌, true, ap, Decides}
use Rattle.std.specs.Cmp.{IsEquivalence, IsPartialEquivalence, partial_equiv_from_equiv, decided}
use Rattle.std.specs.Cmp.Lexicographic.{pointwise_decides}
use Rattle.mv_cover.specs.Keys.{cube_eq-Decides}
use Rattle.mv_kernels.specs.declared.kernel.Kernel.{Kernel}
use Rattle.mv_kernels.specs.Equal.{kernel_eq, kernel_fed}

-- kernels of the same cubes are equal
pub same_kernel : (a b : Kernel) → a.cubes ≡ b.cubes → a ≡ b
same_kernel a b c = λ i. record { cubes = c i }

pub kernel_eq-Decides : (a b : Kernel) → Decides (kernel_eq a b) (a ≡ b)
kernel_eq-Decides a b = (
  λ h. same_kernel a b ((pointwise_decides cube_eq-Decides a.cubes b.cubes).0 h),
  λ e. (pointwise_decides cube_eq-Decides a.cubes b.cubes).1 (ap (λ (k : Kernel). k.cubes) e),
)

-- the laws of the comparison
pub kernel_eq-equiv : IsEquivalence kernel_eq
kernel_eq-equiv = decided kernel_eq kernel_eq-Decides

pub kernel_eq-partial_equiv : IsPartialEquivalence kernel_eq
kernel_eq-partial_equiv = partial_equiv_from_equiv kernel_eq-equiv

-- equal kernels feed a hash alike
pub kernel_fed-same : (a b : Kernel) → kernel_eq a b ≡ true → kernel_fed a ≡ kernel_fed b
kernel_fed-same a b h = ap kernel_fed ((kernel_eq-Decides a b).0 h)

-- Equality of kernels as a test.
use Rattle.std.specs.Prelude.{Bool}
use Rattle.std.specs.Cmp.Lexicographic.{pointwise}
use Rattle.std.specs.Hash as fed
use Rattle.std.specs.Hash.{HashWrites}
use Rattle.mv_cover.specs.Equal.{cube_eq, cube_fed}
use Rattle.mv_kernels.specs.declared.kernel.Kernel.{Kernel}

-- the same cubes, one by one
abbrev pub kernel_eq : Kernel → Kernel → Bool
kernel_eq a b = pointwise cube_eq a.cubes b.cubes

-- what a hash is fed with
abbrev pub kernel_fed : Kernel → HashWrites
kernel_fed k = fed.slice cube_fed k.cubes

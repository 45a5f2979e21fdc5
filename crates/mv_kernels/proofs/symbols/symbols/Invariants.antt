use Rattle.std.proofs.Common.{All, Contains, take}
use Rattle.mv_kernels.proofs.symbols.symbols.Given as goal

abbrev pub invariant-loop-cube : goal.invariant-loop-cube
invariant-loop-cube l = All (λ q. All (Contains l.found.keys) q) (take l.cube-index l.cubes)

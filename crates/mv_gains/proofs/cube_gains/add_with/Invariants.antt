use Rattle.std.proofs.Common.{◌≡◌, ◌++◌, take}
use Rattle.mv_gains.specs.Answers.{with_symbol}
use Rattle.mv_gains.proofs.cube_gains.add_with.Given as goal

abbrev pub invariant-loop-cube : goal.invariant-loop-cube
invariant-loop-cube l = l.list.items ≡ l.fn.list.items ++ with_symbol l.symbol (take l.cube-index l.cubes)

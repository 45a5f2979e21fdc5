use Rattle.std.proofs.Common.{◌≡◌, take}
use Rattle.mv_gains.specs.Answers.{all_with}
use Rattle.mv_gains.proofs.cube_gains.cubes_with.Given as goal

abbrev pub invariant-loop-net : goal.invariant-loop-net
invariant-loop-net l = l.cubes.items ≡ all_with l.symbol l.tables (take l.net-index l.nets)

use Rattle.std.proofs.Common.{◌-◌, length}
use Rattle.mv_diagram.proofs.cube.+cube_from.Given as goal

abbrev pub decreases-cube_from : goal.decreases-cube_from
decreases-cube_from l = length l.literals.now - l.at

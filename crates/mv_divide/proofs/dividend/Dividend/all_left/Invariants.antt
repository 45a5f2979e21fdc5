use Rattle.std.proofs.Common.{◌≡◌, take}
use Rattle.mv_divide.specs.Found.{all_left}
use Rattle.mv_divide.proofs.dividend.Dividend.all_left.Given as goal

abbrev pub invariant-loop-cube : goal.invariant-loop-cube
invariant-loop-cube l = l.left.items ≡ all_left l.self l.divisor l.first (take l.cube-index l.cube-items)

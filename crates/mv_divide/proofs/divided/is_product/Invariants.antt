use Rattle.std.proofs.Common.{◌≡◌, false, take}
use Rattle.mv_divide.specs.Grouped.{is_product}
use Rattle.mv_divide.proofs.divided.is_product.Given as goal

abbrev pub invariant-loop-d : goal.invariant-loop-d
invariant-loop-d l = is_product l.left.keys (take l.d-index l.divisor) l.line ≡ false

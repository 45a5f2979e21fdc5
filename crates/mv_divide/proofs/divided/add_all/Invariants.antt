use Rattle.std.proofs.Common.{◌≡◌, ◌++◌, take}
use Rattle.std.specs.List.{flat_map}
use Rattle.mv_divide.specs.Tables.{lines_for}
use Rattle.mv_divide.proofs.divided.add_all.Given as goal

abbrev pub invariant-loop-quotient : goal.invariant-loop-quotient
invariant-loop-quotient l = l.new.items ≡ l.fn.new.items ++ flat_map (lines_for l.n) (take l.quotient-index l.quotients)

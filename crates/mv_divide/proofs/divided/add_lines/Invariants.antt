use Rattle.std.proofs.Common.{◌≡◌, ◌++◌, List, map, take}
use Rattle.mv_cover.specs.Literal.{Lit}
use Rattle.mv_divide.specs.Tables.{with_one}
use Rattle.mv_divide.proofs.divided.add_lines.Given as goal

abbrev pub invariant-loop-cube : goal.invariant-loop-cube
invariant-loop-cube l = l.new.items ≡ l.fn.new.items ++ map (λ (s : List Lit). record { cube = with_one l.n s; out = l.quotient.out }) (take l.cube-index l.cube-items)

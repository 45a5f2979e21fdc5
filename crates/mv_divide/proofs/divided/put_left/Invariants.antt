use Rattle.std.proofs.Common.{◌≡◌, List, map, take}
use Rattle.indexmap.specs.IndexSet.{insert_all}
use Rattle.mv_cover.specs.Literal.{Lit}
use Rattle.mv_cover.specs.Equal.{line_eq}
use Rattle.mv_divide.proofs.divided.put_left.Given as goal

abbrev pub invariant-loop-cube : goal.invariant-loop-cube
invariant-loop-cube l = l.left.keys ≡ insert_all line_eq l.fn.left.keys (map (λ (s : List Lit). record { cube = s; out = l.quotient.out }) (take l.cube-index l.cube-items))

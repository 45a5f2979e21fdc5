use Rattle.std.proofs.Common.{◌≡◌, drop}
use Rattle.mv_relation.specs.Placing.{all_placed}
use Rattle.mv_relation.proofs.literals.put_cube.Given as goal

abbrev pub invariant-loop-lit : goal.invariant-loop-lit
invariant-loop-lit l =
    all_placed l.vars (drop l.lit-index l.cube) l.literals.items ≡ all_placed l.vars l.cube l.fn.literals.items

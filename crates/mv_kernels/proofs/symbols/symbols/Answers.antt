-- The symbols found so far stay, and those of the next cube come to them.
use Rattle.std.proofs.Common.{All, Contains, List, subst, arith}
use Rattle.std.proofs.lemmas.List.{take_all}
use Rattle.mv_cover.specs.Literal.{Lit}
use Rattle.mv_kernels.proofs.Walks.{symbols_more}
use Rattle.mv_kernels.proofs.symbols.symbols.Goals as goal

pub loop-cube-preserved : goal.loop-cube-preserved
loop-cube-preserved c =
    symbols_more c.args.cubes.now c.loop-cube.cube-index c.cube-item.result c.lits.result.now c.loop-cube.found.keys c.add.new.found.keys c.loop-cube-test.true c.cube-item.is c.lits.ensures.lits c.in_ok-add.ensures c.loop-cube.invariant

pub returns : goal.returns
returns c =
    subst (λ (qs : List (List Lit)). All (λ (q : List Lit). All (Contains c.loop-cube.found.keys) q) qs) (take_all c.loop-cube.cube-index c.args.cubes.now (omega arith)) c.loop-cube.invariant

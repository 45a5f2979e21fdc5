use Rattle.std.proofs.Common.{◌^◌, arith}
use Rattle.mv_cover.proofs.Counts.{cube_ends}
use Rattle.mv_cover.proofs.cube.Cube.len.Goals as goal

pub returns-in-Some-clause-short : goal.returns-in-Some-clause-short
returns-in-Some-clause-short c =
    cube_ends (2 ^ 32) _ c.in-Some.last.now (rw c.lits-lits.ensures.lits c.lits-lits.ensures.formed) c.in-Some.ensures.item.1 (omega (arith, c.net.ensures.number, c.within_numbers.ensures))

use Rattle.mv_division.proofs.Counting.{divisor_cubes, divisor_some, added_literals, divided_literals}
use Rattle.mv_division.proofs.law.literals_law.Goals as goal

pub returns : goal.returns
returns c = record { cubes = divisor_cubes; some = divisor_some; added = added_literals; divided = divided_literals }

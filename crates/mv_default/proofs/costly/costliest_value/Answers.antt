-- A line has a value, so there is one, and the first greatest sum is that of the costliest.
use Rattle.std.proofs.Common.{◌<◌, ap, length, arith}
use Rattle.mv_default.specs.Summing.{IsGreatest}
use Rattle.mv_default.proofs.Summed.{costliest_of, values_there}
use Rattle.mv_default.proofs.costly.costliest_value.Goals as goal

pub first_greatest-requires-clause-some : goal.first_greatest-requires-clause-some
first_greatest-requires-clause-some c =
    let some = values_there c.args.lines.now c.args.values c.requires.some c.requires.within in
    omega (arith, some, c.in_ok-sums.ensures.long, ap length c.as_slice.ensures.value)

pub returns-clause-value : goal.returns-clause-value
returns-clause-value c =
    costliest_of c.args.lines.now c.args.values c.in_ok-sums.sums.items c.first_greatest.result c.requires.within c.in_ok-sums.ensures
    (rw c.as_slice.ensures.value at c.first_greatest.ensures)

-- A net has few values.
use Rattle.std.proofs.Common.{length, ap, arith}
use Rattle.mv_trace.proofs.Columns.{names_few}
use Rattle.mv_trace.proofs.value.value_of.Goals as goal

pub overflow_cast-result : goal.overflow_cast-result
overflow_cast-result c =
    let few = names_few c.args.net.now c.args.n.0 c.well_formed-2.ensures in
    let same = ap length c.value_names-names.ensures in
    let within = c.in-Some.ensures.within in
    omega arith

-- The table is a cover over the counts.
use Rattle.std.proofs.Common.{◌≡◌, ◌∙◌, Some, sym, ap, arith}
use Rattle.std.specs.Option.{option_copied}
use Rattle.mv_choose.proofs.Taking.{over}
use Rattle.mv_net.specs.Nets.{slot, table_in}
use Rattle.mv_net.proofs.Known.{values_few}
use Rattle.mv_choose.proofs.choosing.determined_table.Goals as goal

pub determined-requires-clause-few : goal.determined-requires-clause-few
determined-requires-clause-few c = let few = values_few c.args.net.now c.args.n.0 c.well_formed-2.ensures in omega (arith, few, c.values.ensures)

pub determined-requires-clause-over : goal.determined-requires-clause-over
determined-requires-clause-over c =
    let is : table_in (slot c.args.net.now.nets c.args.n.0) ≡ Some c.unwrap.result.now = sym c.table.ensures ∙ ap option_copied c.unwrap.ensures in
    rw c.counts.ensures (rw c.values.ensures (over c.args.net.now c.args.n.0 c.unwrap.result.now c.well_formed-2.ensures is))

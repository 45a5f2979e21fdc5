-- The outputs of one table more are added.
use Rattle.std.proofs.Common.{◌∙◌, sym}
use Rattle.mv_acyclic.proofs.Driven.{outputs_more}
use Rattle.mv_acyclic.proofs.drivers.add_tables.Goals as goal

pub loop-table-preserved : goal.loop-table-preserved
loop-table-preserved c =
    rw (c.in_ok-add_names.ensures, c.as_slice.ensures)
    (sym (outputs_more c.loop-table.names c.args.tables.now c.loop-table.table-index c.table-item.result c.loop-table-test.true c.table-item.is)
    ∙ c.loop-table.invariant)

use Rattle.std.specs.Prelude.{slice_index}
use Rattle.mv_net.specs.Nets.{slot}
use Rattle.mv_solve.proofs.Firsts.{value_found, value_none}
use Rattle.mv_solve.proofs.first.least_value.Goals as goal

pub returns-then-first-high : goal.returns-then-first-high
returns-then-first-high c = value_found (slot c.args.net.now.nets c.args.n.0) c.values.result _ c.args.asked (slice_index c.args.values.now) c.args.start c.narrow-low.result.0 c.narrow-low.result.1 c.first_of_table-first.result (record { held = c.requires; counts = c.values.ensures; is = c.table.ensures }) c.narrow-low.ensures c.first_of_table-first.ensures c.if-first-high.true

pub returns-else-first-high : goal.returns-else-first-high
returns-else-first-high c = value_none (slot c.args.net.now.nets c.args.n.0) c.values.result _ c.args.asked (slice_index c.args.values.now) c.args.start c.narrow-low.result.0 c.narrow-low.result.1 c.first_of_table-first.result (record { held = c.requires; counts = c.values.ensures; is = c.table.ensures }) c.narrow-low.ensures c.first_of_table-first.ensures c.if-first-high.false

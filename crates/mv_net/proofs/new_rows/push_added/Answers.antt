use Rattle.std.proofs.Common.{◌+◌, Some, take, refl, arith}
use Rattle.mv_net.specs.NewRows.{added_tables}
use Rattle.mv_net.proofs.RowsGiven.{rows_more, added_tables-more}
use Rattle.mv_net.proofs.new_rows.push_added.Goals as goal

pub loop-place-preserved : goal.loop-place-preserved
loop-place-preserved c = λ tables are.
    let i = c.loop-place.place in
    let k = c.args.first in
    let x = c.index-add-place.result in
    rows_more tables (added_tables k (take i c.args.add.now)) (added_tables k (take (i + 1) c.args.add.now)) (k + i, Some x.table) c.loop-place.rows c.push.new.self _
    (added_tables-more k c.args.add.now i x (omega arith) c.index-add-place.is) c.in_ok-push.ensures.ok (c.loop-place.invariant tables are)
    (record { net = refl; fanins = c.in_ok-fanins.ensures })

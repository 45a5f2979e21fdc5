use Rattle.std.proofs.Common.{◌∙◌, ◌+◌, ◌++◌, ◌∷◌, [], map, take, refl, sym, ap, arith}
use Rattle.std.proofs.lemmas.List.{map_more}
use Rattle.mv_net.specs.declared.change.NewTable.{NewTable}
use Rattle.mv_net.specs.NewRows.{new_table}
use Rattle.mv_net.proofs.RowsGiven.{rows_more}
use Rattle.mv_net.proofs.new_rows.push_set.Goals as goal

pub loop-new-preserved : goal.loop-new-preserved
loop-new-preserved c = λ tables are.
    let i = c.loop-new.new-index in
    let x = c.new-item.result in
    rows_more tables (map new_table (take i c.args.set.now)) (map new_table (take (i + 1) c.args.set.now)) (new_table x) c.loop-new.rows c.push.new.self _
    (map_more new_table c.args.set.now i x (omega arith) ∙ ap (λ (t : NewTable). map new_table (take i c.args.set.now) ++ new_table t ∷ []) (sym c.new-item.is)) c.in_ok-push.ensures.ok (c.loop-new.invariant tables are)
    (record { net = refl; fanins = c.in_ok-fanins.ensures })

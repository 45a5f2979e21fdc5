use Rattle.std.proofs.Common.{◌+◌, List, None, map, take, get_or, refl, sym, subst, arith}
use Rattle.std.proofs.lemmas.List.{map_more}
use Rattle.mv_base.specs.declared.number.NetId.{NetId}
use Rattle.mv_graph.specs.Nets.{IsAscending}
use Rattle.mv_graph.proofs.Nets.{IsAscending-none}
use Rattle.mv_net.specs.Nets.{table_reads}
use Rattle.mv_net.specs.NewRows.{no_table}
use Rattle.mv_net.proofs.RowsGiven.{rows_more}
use Rattle.mv_net.proofs.new_rows.push_gone.Goals as goal

pub loop-net-preserved : goal.loop-net-preserved
loop-net-preserved c = λ tables are.
    let none : NetId = record { 0 = 0 } in
    let i = c.loop-net.net-index in
    let P : List NetId → Type 0 = IsAscending (table_reads None) in
    rows_more tables (map no_table (take i c.args.gone.now)) (map no_table (take (i + 1) c.args.gone.now)) (no_table (get_or c.args.gone.now i none)) c.loop-net.rows c.push.new.self _
    (map_more no_table c.args.gone.now i none (omega arith)) c.in_ok-push.ensures.ok (c.loop-net.invariant tables are)
    (record { net = refl; fanins = subst P (sym c.new.ensures) (IsAscending-none (table_reads None) (λ m. refl)) })

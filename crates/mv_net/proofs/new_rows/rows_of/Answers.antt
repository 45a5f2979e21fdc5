use Rattle.std.proofs.Common.{◌++◌, [], List, map, sym, subst}
use Rattle.mv_base.specs.declared.number.NetId.{NetId}
use Rattle.mv_dag.specs.declared.new_rows.NewRow.{NewRow}
use Rattle.mv_net.specs.declared.change.NewNet.{NewNet}
use Rattle.mv_net.specs.declared.change.NewTable.{NewTable}
use Rattle.mv_net.specs.NewRows.{no_table, new_table, added_tables, AreRows}
use Rattle.mv_net.proofs.new_rows.rows_of.Goals as goal

pub returns : goal.returns
returns c =
    let rows = c.push_added.new.rows in
    let change = c.args.change.now in
    let first = c.args.first in
    let S : List NewRow → Type 0 = AreRows [] in
    let gone = c.in_ok-push_gone.ensures [] (subst S (sym c.new-rows.ensures) tt) in
    let set = c.in_ok-push_set.ensures (map no_table c.as_slice.result.now) gone in
    let all = c.in_ok-push_added.ensures (map no_table c.as_slice.result.now ++ map new_table c.as_slice-2.result.now) set in
    let P : List NetId → Type 0 = λ ns. AreRows ((map no_table ns ++ map new_table c.as_slice-2.result.now) ++ added_tables first c.as_slice-3.result.now) rows in
    let Q : List NewTable → Type 0 = λ ts. AreRows ((map no_table change.gone ++ map new_table ts) ++ added_tables first c.as_slice-3.result.now) rows in
    let R : List NewNet → Type 0 = λ ms. AreRows ((map no_table change.gone ++ map new_table change.set) ++ added_tables first ms) rows in
    subst R c.as_slice-3.ensures (subst Q c.as_slice-2.ensures (subst P c.as_slice.ensures all))

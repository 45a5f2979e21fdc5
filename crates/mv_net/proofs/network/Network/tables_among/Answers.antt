-- One net more, which comes where it has a table.
use Rattle.std.proofs.Common.{◌∙◌, length, get_or, ap, sym, arith}
use Rattle.mv_base.specs.declared.number.NetId.{NetId}
use Rattle.mv_net.proofs.Windows.{tables_yes, tables_no}
use Rattle.mv_net.proofs.network.Network.tables_among.Goals.{then-has_table+in_ok-insert, else-has_table}
use Rattle.mv_net.proofs.network.Network.tables_among.Goals as goal

pub loop-net-preserved : goal.loop-net-preserved
loop-net-preserved c =
    let none : NetId = record { 0 = 0 } in
    let i = c.loop-net.net-index in
    let keys = c.as_slice-net-items.ensures.keys in
    let x = get_or c.as_slice-net-items.result.now i none in
    elim c.if-has_table.branch [
      | then-has_table+in_ok-insert w ↦
          rw w.tables-is
          (tables_yes c.args.self.now.nets c.args.found.now.keys c.loop-net.tables.keys w.insert.new.self.keys i x none (omega (arith, ap length keys)) (ap (λ l. get_or l i none) keys) (sym c.has_table.ensures ∙ w.if-has_table.true) w.in_ok-insert.ensures.keys c.loop-net.invariant)
      | else-has_table w ↦
          rw w.tables-is
          (tables_no c.args.self.now.nets c.args.found.now.keys c.loop-net.tables.keys i x none (omega (arith, ap length keys)) (ap (λ l. get_or l i none) keys) (sym c.has_table.ensures ∙ w.if-has_table.false) c.loop-net.invariant)
    ]

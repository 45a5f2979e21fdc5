-- One table more, with those of its fanins that are no tables.
use Rattle.std.proofs.Common.{List, length, get_or, ap, subst, arith}
use Rattle.std.proofs.lemmas.List.{take_all}
use Rattle.mv_base.specs.declared.number.NetId.{NetId}
use Rattle.mv_graph.specs.Nets.{has_id}
use Rattle.mv_net.specs.Window.{IsWindowInput}
use Rattle.mv_net.specs.Searching.{HasExactly, IsReadBy}
use Rattle.mv_net.proofs.Paths.{lists_sorted}
use Rattle.mv_net.proofs.Windows.{read_more, inputs_exactly}
use Rattle.mv_net.proofs.network.Network.inputs_of.Goals as goal

pub loop-net-preserved : goal.loop-net-preserved
loop-net-preserved c =
    let none : NetId = record { 0 = 0 } in
    let i = c.loop-net.net-index in
    let tables = c.args.tables.now.keys in
    let keys = c.as_slice-net-items.ensures.keys in
    let x = get_or c.as_slice-net-items.result.now i none in
    read_more c.args.self.now.nets (has_id tables) tables c.loop-net.read.items c.fanins.result.now c.add_outside.new.read.items i x none (omega (arith, ap length keys)) (ap (λ l. get_or l i none) keys) c.fanins.ensures c.in_ok-add_outside.ensures c.loop-net.invariant

pub returns : goal.returns
returns c =
    let nets = c.args.self.now.nets in
    let tables = c.args.tables.now.keys in
    let all = take_all c.loop-net.net-index tables (omega (arith, ap length c.as_slice-net-items.ensures.keys)) in
    let P : List NetId → Type 0 = λ l. HasExactly (IsReadBy nets (has_id tables) l) c.loop-net.read.items in
    lists_sorted (IsWindowInput nets (has_id tables)) c.loop-net.read.items c.ascending.result (inputs_exactly nets tables c.loop-net.read.items (subst P all c.loop-net.invariant)) c.ascending.ensures

-- The three lists are those of the nets around.
use Rattle.std.proofs.Common.{◌∙◌, List, subst}
use Rattle.mv_base.specs.declared.number.NetId.{NetId}
use Rattle.mv_graph.specs.Nets.{has_id, IsAscending}
use Rattle.mv_net.specs.Nets.{slot}
use Rattle.mv_net.proofs.Windows.{window_made, tables_held, table_held}
use Rattle.mv_net.proofs.network.Network.window.Goals as goal

pub around-requires : goal.around-requires
around-requires c = table_held (slot c.args.self.now.nets c.args.n.0) c.requires

pub inputs_of-requires : goal.inputs_of-requires
inputs_of-requires c = tables_held c.args.self.now.nets c.in_ok-found.found.keys c.in_ok-tables.tables.keys c.in_ok-found.ensures.held c.in_ok-tables.ensures

pub outputs_of-requires : goal.outputs_of-requires
outputs_of-requires c = tables_held c.args.self.now.nets c.in_ok-found.found.keys c.in_ok-tables.tables.keys c.in_ok-found.ensures.held c.in_ok-tables.ensures

pub returns : goal.returns
returns c =
    let keys = c.in_ok-tables.tables.keys in
    let P : List NetId → Type 0 = λ ns. IsAscending (has_id ns) c.ascending.result in
    window_made c.args.self.now c.args.n.0 c.args.d c.args.u c.in_ok-found.found.keys keys (record { tables = c.ascending.result; inputs = c.in_ok-inputs.inputs; outputs = c.in_ok-outputs.outputs }) c.in_ok-found.ensures.members c.in_ok-tables.ensures
    (subst P (c.in_ok-list.ensures.items ∙ c.as_slice.ensures.keys) c.ascending.ensures) c.in_ok-inputs.ensures c.in_ok-outputs.ensures

-- A net that isn't seen is shown where one of its readers is none of the tables.
use Rattle.std.proofs.Common.{◌∙◌, sym}
use Rattle.mv_graph.specs.Nets.{has_id}
use Rattle.mv_net.proofs.Windows.{shown_read}
use Rattle.mv_net.proofs.network.Network.is_shown.Goals as goal

pub returns-else-is_seen : goal.returns-else-is_seen
returns-else-is_seen c =
    shown_read c.args.self.now (has_id c.args.tables.now.keys) c.args.net.0 c.readers.result.now c.some_outside.result (sym c.is_seen.ensures ∙ c.if-is_seen.false) c.readers.ensures c.some_outside.ensures

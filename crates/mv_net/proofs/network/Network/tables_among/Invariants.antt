use Rattle.std.proofs.Common.{take}
use Rattle.mv_net.specs.Searching.{HasTables}
use Rattle.mv_net.proofs.network.Network.tables_among.Given as goal

abbrev pub invariant-loop-net : goal.invariant-loop-net
invariant-loop-net l = HasTables l.self.nets (take l.net-index l.found.keys) l.tables.keys

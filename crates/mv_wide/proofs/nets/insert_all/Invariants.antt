use Rattle.std.proofs.Common.{◌≡◌, take}
use Rattle.indexmap.specs.IndexSet.{insert_all}
use Rattle.mv_net.specs.Searching.{same_id}
use Rattle.mv_wide.proofs.nets.insert_all.Given as goal

abbrev pub invariant-loop-net : goal.invariant-loop-net
invariant-loop-net l = l.found.keys ≡ insert_all same_id l.fn.found.keys (take l.net-index l.nets)

use Rattle.std.proofs.Common.{◌≤◌, length, take}
use Rattle.mv_net.specs.Names.{AreNames}
use Rattle.mv_net.proofs.names.remove_names.Given as goal

abbrev pub invariant-loop-count : goal.invariant-loop-count
invariant-loop-count l = record { least : l.long ≤ l.count; most : l.count ≤ length l.nets; names : AreNames (take l.count l.nets) l.names }

abbrev pub decreases-loop-count : goal.decreases-loop-count
decreases-loop-count l = l.count

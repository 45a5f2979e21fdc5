use Rattle.std.proofs.Common.{◌-◌}
use Rattle.mv_dag.proofs.Sought.{IsSought}
use Rattle.mv_dag.proofs.readers.place_in.Given as goal

abbrev pub invariant-search : goal.invariant-search
invariant-search l = IsSought l.nets l.net.0 l.low l.high

abbrev pub decreases-search : goal.decreases-search
decreases-search l = l.high - l.low

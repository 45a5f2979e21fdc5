use Rattle.std.proofs.Common.{◌≡◌, drop}
use Rattle.mv_acyclic.specs.Driving.{with_names}
use Rattle.mv_acyclic.proofs.nets.add_nets.Given as goal

abbrev pub invariant-loop-net : goal.invariant-loop-net
invariant-loop-net l = with_names l.names (drop l.net-index l.nets) ≡ with_names l.fn.names l.nets

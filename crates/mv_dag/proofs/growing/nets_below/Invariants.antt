use Rattle.std.proofs.Common.{◌<◌, All}
use Rattle.mv_base.specs.declared.number.NetId.{NetId}
use Rattle.mv_dag.proofs.growing.nets_below.Given as goal

abbrev pub invariant-loop-net : goal.invariant-loop-net
invariant-loop-net l = All (λ (n : NetId). n.0 < l.number) l.below.items

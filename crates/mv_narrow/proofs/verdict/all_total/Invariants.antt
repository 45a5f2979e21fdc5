use Rattle.std.proofs.Common.{take, All}
use Rattle.mv_base.specs.declared.number.NetId.{NetId}
use Rattle.mv_net.specs.Total.{IsTotalNet}
use Rattle.mv_narrow.proofs.verdict.all_total.Given as goal

abbrev pub invariant-loop-m : goal.invariant-loop-m
invariant-loop-m l = All (λ (m : NetId). IsTotalNet l.net.nets m.0) (take l.m-index l.nets)

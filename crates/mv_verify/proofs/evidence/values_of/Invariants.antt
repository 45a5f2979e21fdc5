use Rattle.std.proofs.Common.{◌≡◌, map, take}
use Rattle.mv_verify.proofs.evidence.values_of.Given as goal

abbrev pub invariant-loop-value : goal.invariant-loop-value
invariant-loop-value l = map (λ v. v.0) l.list.items ≡ take l.value-index l.values

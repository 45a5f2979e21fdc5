use Rattle.std.proofs.Common.{◌≡◌, take}
use Rattle.mv_coding.specs.Nets.{bit_nets_from}
use Rattle.mv_coding.proofs.change.bit_nets.Given as goal

abbrev pub invariant-loop-place : goal.invariant-loop-place
invariant-loop-place l = l.nets ≡ bit_nets_from l.codes l.table 0 (take l.place l.names)

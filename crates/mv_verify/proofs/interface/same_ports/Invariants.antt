use Rattle.std.proofs.Common.{◌≡◌, ℕ, ◌<◌, get_or}
use Rattle.mv_base.specs.declared.number.NetId.{NetId}
use Rattle.mv_net.specs.Nets.{port_of}
use Rattle.mv_verify.proofs.interface.same_ports.Given as goal

abbrev pub invariant-loop-place : goal.invariant-loop-place
invariant-loop-place l = let none : NetId = record { 0 = 0 } in (k : ℕ) → k < l.place → port_of l.b.nets (get_or l.of_b k none) ≡ port_of l.a.nets (get_or l.of_a k none)

use Rattle.std.proofs.Common.{◌≡◌, ℕ, ◌<◌, get_or, None}
use Rattle.mv_net.specs.declared.parts.FlatLatch.{FlatLatch}
use Rattle.mv_net.specs.Nets.{latch_port_of}
use Rattle.mv_verify.proofs.interface.same_latches.Given as goal

abbrev pub invariant-loop-place : goal.invariant-loop-place
invariant-loop-place l = let none : FlatLatch = record { input = record { 0 = 0 }; output = record { 0 = 0 }; reset = None } in (k : ℕ) → k < l.place → latch_port_of l.b.nets (get_or l.of_b k none) ≡ latch_port_of l.a.nets (get_or l.of_a k none)

use Rattle.std.proofs.Common.{None, get_or, drop, refl, arith}
use Rattle.mv_net.specs.declared.parts.FlatLatch.{FlatLatch}
use Rattle.mv_verify.proofs.Resets.{spread_more}
use Rattle.mv_verify.proofs.evidence.resets_of.Goals as goal

pub loop-latch-preserved : goal.loop-latch-preserved
loop-latch-preserved c =
    let none : FlatLatch = record { input = record { 0 = 0 }; output = record { 0 = 0 }; reset = None } in
    let ls = c.args.latches.now in
    let vs = c.args.values.now in
    record {
      few = omega (arith, c.in_ok-place.ensures.few, c.loop-latch.invariant.few);
      spread = spread_more ls c.loop-latch.latch-index (get_or ls c.loop-latch.latch-index none) none (drop c.loop-latch.place vs) (drop c.in_ok-place.place vs) c.loop-latch.resets.items c.push_reset.new.resets.items _ (omega arith) refl c.in_ok-place.ensures.pushed c.loop-latch.invariant.spread;
    }

use Rattle.std.proofs.Common.{None, length, arith}
use Rattle.mv_net.specs.declared.parts.FlatLatch.{FlatLatch}
use Rattle.mv_net.proofs.Marks.{number_at, AlsoMarked-more}
use Rattle.mv_net.proofs.seen.mark_inputs.Goals as goal

abbrev none : FlatLatch
none = record { input = record { 0 = 0 }; output = record { 0 = 0 }; reset = None }

pub replace-requires : goal.replace-requires
replace-requires c =
    omega (arith, c.loop-latch.invariant.long, number_at (λ (l : FlatLatch). l.input.0) c.args.latches.now (length c.args.marks.now) c.loop-latch.latch-index none c.requires (omega arith))

pub loop-latch-preserved : goal.loop-latch-preserved
loop-latch-preserved c =
    let low = number_at (λ (l : FlatLatch). l.input.0) c.args.latches.now (length c.args.marks.now) c.loop-latch.latch-index none c.requires (omega arith) in
    AlsoMarked-more (λ (l : FlatLatch). l.input.0) c.args.marks.now c.loop-latch.marks c.replace.new.self c.args.latches.now c.loop-latch.latch-index none (omega arith) (omega (arith, low, c.loop-latch.invariant.long)) c.loop-latch.invariant c.replace.ensures.items

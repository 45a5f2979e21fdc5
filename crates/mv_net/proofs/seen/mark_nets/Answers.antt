use Rattle.std.proofs.Common.{length, arith}
use Rattle.mv_base.specs.declared.number.NetId.{NetId}
use Rattle.mv_net.proofs.Marks.{number_at, AlsoMarked-more}
use Rattle.mv_net.proofs.seen.mark_nets.Goals as goal

pub replace-requires : goal.replace-requires
replace-requires c =
    omega (arith, c.loop-net.invariant.long, number_at (λ (m : NetId). m.0) c.args.nets.now (length c.args.marks.now) c.loop-net.net-index (record { 0 = 0 }) c.requires (omega arith))

pub loop-net-preserved : goal.loop-net-preserved
loop-net-preserved c =
    let low = number_at (λ (m : NetId). m.0) c.args.nets.now (length c.args.marks.now) c.loop-net.net-index (record { 0 = 0 }) c.requires (omega arith) in
    AlsoMarked-more (λ (m : NetId). m.0) c.args.marks.now c.loop-net.marks c.replace.new.self c.args.nets.now c.loop-net.net-index (record { 0 = 0 }) (omega arith) (omega (arith, low, c.loop-net.invariant.long)) c.loop-net.invariant c.replace.ensures.items

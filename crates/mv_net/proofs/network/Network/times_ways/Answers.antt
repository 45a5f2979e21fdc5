-- One net more.
use Rattle.std.proofs.Common.{◌∙◌, ◌^◌, ◌-◌, get_or, refl}
use Rattle.mv_base.specs.declared.number.NetId.{NetId}
use Rattle.mv_net.proofs.Windows.{ways_more}
use Rattle.mv_net.proofs.network.Network.times_ways.Goals as goal

pub loop-net-preserved : goal.loop-net-preserved
loop-net-preserved c =
    let none : NetId = record { 0 = 0 } in
    let xs = c.args.nets.now in
    ways_more c.args.self.now.nets xs c.loop-net.net-index (get_or xs c.loop-net.net-index none) none c.args.start c.loop-net.ways c.saturating_mul-ways.result c.into.result (2 ^ 128 - 1) c.loop-net-test.true refl (c.into.ensures ∙ c.ways_at.ensures) c.saturating_mul-ways.ensures c.loop-net.invariant

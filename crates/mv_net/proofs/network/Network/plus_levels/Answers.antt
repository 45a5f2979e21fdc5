-- One net more.
use Rattle.std.proofs.Common.{◌∙◌, ◌^◌, ◌-◌, get_or, refl}
use Rattle.mv_base.specs.declared.number.NetId.{NetId}
use Rattle.mv_net.proofs.Windows.{levels_more}
use Rattle.mv_net.proofs.network.Network.plus_levels.Goals as goal

pub loop-net-preserved : goal.loop-net-preserved
loop-net-preserved c =
    let none : NetId = record { 0 = 0 } in
    let xs = c.args.nets.now in
    levels_more c.args.self.now.nets xs c.loop-net.net-index (get_or xs c.loop-net.net-index none) none c.args.start c.loop-net.levels c.saturating_add-levels.result c.into.result (2 ^ 64 - 1) c.loop-net-test.true refl (c.into.ensures ∙ c.levels_at.ensures) c.saturating_add-levels.ensures c.loop-net.invariant

-- The tables, and then the inputs.
use Rattle.std.proofs.Common.{◌∙◌, ◌*◌, ◌^◌, ◌-◌, min, ap}
use Rattle.mv_net.specs.Window.{ways_of}
use Rattle.mv_net.proofs.Windows.{points_both}
use Rattle.mv_net.proofs.network.Network.points.Goals as goal

pub returns : goal.returns
returns c =
    let nets = c.args.self.now.nets in
    let w = c.args.w.now in
    let ways = c.times_ways-ways.result in
    points_both nets w.tables w.inputs (2 ^ 128 - 1) ways c.times_ways.result (c.times_ways-ways.ensures ∙ ap (λ l. min (1 * ways_of nets l) (2 ^ 128 - 1)) c.as_slice.ensures)
    (c.times_ways.ensures ∙ ap (λ l. min (ways * ways_of nets l) (2 ^ 128 - 1)) c.as_slice-2.ensures)

-- The tables, and then the inputs.
use Rattle.std.proofs.Common.{◌∙◌, ◌+◌, ◌^◌, ◌-◌, min, ap}
use Rattle.mv_net.specs.Window.{levels_of}
use Rattle.mv_net.proofs.Windows.{levels_both}
use Rattle.mv_net.proofs.network.Network.levels.Goals as goal

pub returns : goal.returns
returns c =
    let nets = c.args.self.now.nets in
    let w = c.args.w.now in
    let some = c.plus_levels-levels.result in
    levels_both nets w.tables w.inputs (2 ^ 64 - 1) some c.plus_levels.result (c.plus_levels-levels.ensures ∙ ap (λ l. min (0 + levels_of nets l) (2 ^ 64 - 1)) c.as_slice.ensures)
    (c.plus_levels.ensures ∙ ap (λ l. min (some + levels_of nets l) (2 ^ 64 - 1)) c.as_slice-2.ensures)

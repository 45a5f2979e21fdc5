-- The lines that are left, with the default, are the cover.
use Rattle.std.proofs.Common.{◌∙◌, List, subst}
use Rattle.std.specs.List.{flat_map}
use Rattle.mv_cover.specs.declared.line.Line.{Line}
use Rattle.mv_cover.specs.Absorb.{IsLeftOf, default_beside}
use Rattle.mv_composite.specs.Wired.{line_wired}
use Rattle.mv_composite.proofs.Wires.{wired_is}
use Rattle.mv_composite.proofs.wiring.rewired.Goals as goal

pub returns-clause-cover : goal.returns-clause-cover
returns-clause-cover c =
    wired_is c.args.net.0 c.args.into.0 c.args.cover.now c.finish.result c.in_ok-left.left
    (subst (λ (ls : List Line). IsLeftOf (flat_map (line_wired c.args.net.0 c.args.into.0) ls) c.in_ok-left.left) c.as_slice.ensures c.in_ok-left.ensures.left)
    (c.finish.ensures ∙ λ i. record { lines = c.in_ok-left.left; default = default_beside c.in_ok-left.left (c.in_ok-copied_default.ensures i) })

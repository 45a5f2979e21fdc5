-- The lines that are left and their default are the absorbed cover, which allows what the cover allows.
use Rattle.std.proofs.Common.{◌∙◌, List, subst}
use Rattle.mv_cover.specs.declared.line.Line.{Line}
use Rattle.mv_cover.specs.Absorb.{IsLeftOf, default_beside}
use Rattle.mv_cover.proofs.Putting.{absorbed-left, allowed-left}
use Rattle.mv_cover.proofs.cover.Cover.absorb.Goals as goal

pub returns-clause-tidied : goal.returns-clause-tidied
returns-clause-tidied c =
    absorbed-left c.args.self.now c.finish-cover.result c.in_ok-left.left (subst (λ (ls : List Line). IsLeftOf ls c.in_ok-left.left) c.as_slice.ensures c.in_ok-left.ensures)
    (c.finish-cover.ensures ∙ λ i. record { lines = c.in_ok-left.left; default = default_beside c.in_ok-left.left (c.take.ensures.value i) })

pub returns-clause-same : goal.returns-clause-same
returns-clause-same c =
    allowed-left c.args.self.now c.finish-cover.result c.in_ok-left.left (subst (λ (ls : List Line). IsLeftOf ls c.in_ok-left.left) c.as_slice.ensures c.in_ok-left.ensures)
    (c.finish-cover.ensures ∙ λ i. record { lines = c.in_ok-left.left; default = default_beside c.in_ok-left.left (c.take.ensures.value i) })

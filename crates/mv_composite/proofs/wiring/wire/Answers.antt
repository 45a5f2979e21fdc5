-- The cover means what it should, is well formed, and reads no more than it should.
use Rattle.std.proofs.Common.{sym, subst}
use Rattle.mv_cover.specs.declared.cover.Cover.{Cover}
use Rattle.mv_composite.specs.Inside.{IsCoverOver}
use Rattle.mv_composite.specs.Wired.{AllowsAlong, ReadsAlong}
use Rattle.mv_composite.proofs.Wires.{wired_allows, wired_over, wired_reads}
use Rattle.mv_composite.proofs.wiring.wire.Goals as goal

pub returns-in-Ok-clause-means : goal.returns-in-Ok-clause-means
returns-in-Ok-clause-means c =
    subst (λ (x : Cover). AllowsAlong c.args.net.0 c.args.into.0 c.args.cover.now x) (sym c.in-Ok.ensures.cover) (wired_allows c.args.net.0 c.args.into.0 c.args.cover.now c.in-Ok.ensures.formed)

pub returns-in-Ok-clause-formed : goal.returns-in-Ok-clause-formed
returns-in-Ok-clause-formed c = λ counts values same is.
    subst (λ (x : Cover). IsCoverOver counts values x) (sym c.in-Ok.ensures.cover) (wired_over counts values c.args.net.0 c.args.into.0 c.args.cover.now same is)

pub returns-in-Ok-clause-reads : goal.returns-in-Ok-clause-reads
returns-in-Ok-clause-reads c =
    subst (λ (x : Cover). ReadsAlong c.args.net.0 c.args.into.0 c.args.cover.now x) (sym c.in-Ok.ensures.cover) (wired_reads c.args.net.0 c.args.into.0 c.args.cover.now c.in-Ok.ensures.formed)

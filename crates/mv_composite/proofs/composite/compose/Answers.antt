-- The composite means what it should, is well formed, and reads no more than it should.
use Rattle.std.proofs.Common.{sym, subst}
use Rattle.mv_cover.specs.declared.cover.Cover.{Cover}
use Rattle.mv_composite.specs.Inside.{IsCoverOver}
use Rattle.mv_composite.specs.Composite.{Composes, ReadsThrough}
use Rattle.mv_composite.proofs.Meaning.{composes}
use Rattle.mv_composite.proofs.Formed.{composed_over}
use Rattle.mv_composite.proofs.Reading.{composed_reads}
use Rattle.mv_composite.proofs.composite.compose.Goals as goal

pub returns-in-Ok-clause-means : goal.returns-in-Ok-clause-means
returns-in-Ok-clause-means c =
    subst (λ (x : Cover). Composes c.args.counts.now c.args.inner.now.net.0 c.args.inner.now.cover c.args.reader.now x) (sym c.in-Ok.ensures.cover)
    (composes c.args.counts.now c.args.inner.now c.args.reader.now c.requires.inner c.requires.reader)

pub returns-in-Ok-clause-formed : goal.returns-in-Ok-clause-formed
returns-in-Ok-clause-formed c = λ values over.
    subst (λ (x : Cover). IsCoverOver c.args.counts.now values x) (sym c.in-Ok.ensures.cover)
    (composed_over c.args.counts.now values c.args.inner.now c.args.reader.now c.requires.inner over)

pub returns-in-Ok-clause-reads : goal.returns-in-Ok-clause-reads
returns-in-Ok-clause-reads c =
    subst (λ (x : Cover). ReadsThrough c.args.inner.now.net.0 c.args.inner.now.cover c.args.reader.now x) (sym c.in-Ok.ensures.cover)
    (composed_reads c.args.counts.now c.args.inner.now c.args.reader.now c.requires.inner c.requires.reader)

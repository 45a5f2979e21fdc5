-- The reader's table is one that the composite can be made of; where it is too wide, so it is.
use Rattle.std.proofs.Common.{sym}
use Rattle.mv_plans.proofs.Collapsed.{is_inner}
use Rattle.mv_plans.proofs.CompositeLiterals.{reader_cubes, wide_composite}
use Rattle.mv_plans.proofs.composites.composite_literals.Goals as goal

pub compose-requires-clause-inner : goal.compose-requires-clause-inner
compose-requires-clause-inner c = rw (sym c.counts.ensures) at (is_inner c.args.net.now c.args.inner.now c.well_formed-2.ensures c.requires.known)

pub compose-requires-clause-reader : goal.compose-requires-clause-reader
compose-requires-clause-reader c = rw (sym c.counts.ensures) at (reader_cubes c.args.net.now c.args.reader.0 c.table_of.result.now c.well_formed-2.ensures c.table_of.ensures)

pub returns-in-Err-clause-wide : goal.returns-in-Err-clause-wide
returns-in-Err-clause-wide c = λ e.
    wide_composite c.args.net.now.nets c.args.inner.now c.counts.result.now c.args.reader.0 c.table_of.result.now c.counts.ensures c.table_of.ensures c.requires.reader (c.in-Err.ensures.wide e)

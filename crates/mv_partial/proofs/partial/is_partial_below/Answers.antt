-- A marked reader has a table that isn't total, or is above one; where none is marked all below are total.
use Rattle.std.proofs.Common.{◌∙◌, sym, arith}
use Rattle.mv_partial.proofs.Marking.{total_none, total_more, all_total, partial_by, reader_reads, marked_partial, unmarked_total}
use Rattle.mv_partial.proofs.partial.is_partial_below.Goals as goal

pub loop-reader-init : goal.loop-reader-init
loop-reader-init c = total_none c.args.net.now.nets

pub returns-then-has_mark : goal.returns-then-has_mark
returns-then-has_mark c =
    let nets = c.args.net.now.nets in
    let reads = reader_reads nets c.args.n.0 c.readers-reader-items.result.now c.loop-reader.reader-index _ c.readers-reader-items.ensures c.loop-reader-test.true in
    partial_by nets c.args.n.0 _ reads (marked_partial nets _ _ (sym c.has_mark.ensures ∙ c.if-has_mark.true) (c.requires.marked.each _ reads))

pub loop-reader-preserved : goal.loop-reader-preserved
loop-reader-preserved c =
    let nets = c.args.net.now.nets in
    let reads = reader_reads nets c.args.n.0 c.readers-reader-items.result.now c.loop-reader.reader-index _ c.readers-reader-items.ensures c.loop-reader-test.true in
    total_more nets c.readers-reader-items.result.now c.loop-reader.reader-index _ c.loop-reader-test.true c.loop-reader.invariant
    (unmarked_total nets _ _ (sym c.has_mark.ensures ∙ c.if-has_mark.false) (c.requires.marked.each _ reads))

pub returns : goal.returns
returns c =
    all_total c.args.net.now.nets c.args.n.0 c.readers-reader-items.result.now c.loop-reader.reader-index c.readers-reader-items.ensures (omega (arith, c.loop-reader-test.false)) c.loop-reader.invariant

-- Each line adds what becomes of it behind those before it.
use Rattle.std.proofs.Common.{arith}
use Rattle.mv_determine.proofs.Growing.{grown_long, grown_more, grown_short, grown_wide}
use Rattle.mv_determine.proofs.making.determined.Goals as goal

pub loop-place-preserved : goal.loop-place-preserved
loop-place-preserved c =
    grown_more c.args.counts.now c.as_slice-old.result.now c.loop-place.place c.loop-place.lines c.put_behind.new.lines c.index-old-place.result c.loop-place-test.true c.index-old-place.is c.loop-place.invariant c.in-Ok.ensures.lines c.in-Ok.ensures.narrow
    (omega arith)

pub returns-in-Err-clause-long : goal.returns-in-Err-clause-long
returns-in-Err-clause-long c stop =
    rw c.as_slice-old.ensures at (grown_wide c.args.counts.now c.as_slice-old.result.now c.loop-place.place c.loop-place.lines c.put_behind.new.lines c.index-old-place.result c.loop-place-test.true c.index-old-place.is c.args.table.now.default (c.in-Err.ensures.wide stop))

pub returns-then-len-gt-MAX_TABLE_LINES-clause-long : goal.returns-then-len-gt-MAX_TABLE_LINES-clause-long
returns-then-len-gt-MAX_TABLE_LINES-clause-long c _ =
    rw c.as_slice-old.ensures at
    (grown_long c.args.counts.now c.as_slice-old.result.now c.loop-place.place c.loop-place.lines c.put_behind.new.lines c.index-old-place.result c.loop-place-test.true c.index-old-place.is c.loop-place.invariant c.in-Ok.ensures.lines c.args.table.now.default (omega arith))

pub returns-clause-short : goal.returns-clause-short
returns-clause-short c long =
    grown_short c.args.counts.now c.as_slice-old.result.now c.loop-place.place c.loop-place.lines c.loop-place-test.false c.loop-place.invariant c.args.table.now.default
    (rw (← c.as_slice-old.ensures) at long)

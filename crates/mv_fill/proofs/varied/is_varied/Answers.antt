-- A fanin that isn't plain, or has a varied table above it, makes the net such; all others leave it plain.
use Rattle.std.proofs.Common.{arith}
use Rattle.mv_fill.proofs.Marking.{plain_none, plain_more, all_plain, varied_by, fanin_read, read_held}
use Rattle.mv_fill.proofs.varied.is_varied.Goals as goal

pub loop-fanin-init : goal.loop-fanin-init
loop-fanin-init c = plain_none c.args.net.now.nets

pub is_plain_to-requires : goal.is_plain_to-requires
is_plain_to-requires c =
    let nets = c.args.net.now.nets in
    let list = c.fanins-fanin-items.result.now in
    record {
      held = read_held c.args.net.now c.args.n.0 _ c.well_formed-2.ensures (fanin_read nets c.args.n.0 list c.loop-fanin.fanin-index _ c.fanins-fanin-items.ensures c.loop-fanin-test.true);
      marked = c.requires.marked _ (fanin_read nets c.args.n.0 list c.loop-fanin.fanin-index _ c.fanins-fanin-items.ensures c.loop-fanin-test.true);
    }

pub returns-then-not-is_plain_to : goal.returns-then-not-is_plain_to
returns-then-not-is_plain_to c =
    let list = c.fanins-fanin-items.result.now in
    varied_by c.args.net.now.nets c.args.n.0 _ (fanin_read c.args.net.now.nets c.args.n.0 list c.loop-fanin.fanin-index _ c.fanins-fanin-items.ensures c.loop-fanin-test.true)
    (rw c.if-not-is_plain_to.true at c.is_plain_to.ensures)

pub loop-fanin-preserved : goal.loop-fanin-preserved
loop-fanin-preserved c =
    plain_more c.args.net.now.nets c.fanins-fanin-items.result.now c.loop-fanin.fanin-index _ c.loop-fanin-test.true c.loop-fanin.invariant (rw c.if-not-is_plain_to.false at c.is_plain_to.ensures)

pub returns : goal.returns
returns c =
    all_plain c.args.net.now.nets c.args.n.0 c.fanins-fanin-items.result.now c.loop-fanin.fanin-index c.fanins-fanin-items.ensures (omega (arith, c.loop-fanin-test.false)) c.loop-fanin.invariant

use Rattle.std.proofs.Common.{◌+◌, drop, get_or, refl}
use Rattle.mv_base.proofs.Gains.{start, next, stop, finish}
use Rattle.mv_page.proofs.Adding.{adds}
use Rattle.mv_write.specs.Walk.{literals_behind, walked, entries_text}
use Rattle.mv_write.proofs.Held.{has-at}
use Rattle.mv_write.proofs.Literals.{literals_behind-literals}
use Rattle.mv_write.proofs.Lines.{entries-more, entries-none}
use Rattle.mv_write.proofs.rows.put_entries.Goals as goal

pub loop-n-init : goal.loop-n-init
loop-n-init g c = record { going = start adds _ _; literals = c.requires.literals }

pub put_fanin-requires-clause-held : goal.put_fanin-requires-clause-held
put_fanin-requires-clause-held g c = c.requires.held.each _ (has-at c.args.fanins.now c.loop-n.n-index c.loop-n-test.true)

pub returns-in_err-put_fanin : goal.returns-in_err-put_fanin
returns-in_err-put_fanin g c =
    let nets = c.args.net.now.nets in
    let fanins = c.args.fanins.now in
    let left = c.loop-n.left.now in
    let i = c.loop-n.n-index in
    let m = (get_or fanins i (record { 0 = 0 })).0 in
    stop adds (entries_text (walked nets (literals_behind left m) (drop (i + 1) fanins))) _ _ c.loop-n.invariant.going (entries-more nets left _ fanins i _ _ c.loop-n-test.true refl refl refl) c.in_err-put_fanin.ensures c.from_residual.ensures.1

pub loop-n-preserved : goal.loop-n-preserved
loop-n-preserved g c =
    let nets = c.args.net.now.nets in
    record {
      going = next adds c.loop-n.invariant.going (entries-more nets c.loop-n.left.now c.behind-left.result.now c.args.fanins.now c.loop-n.n-index _ _ c.loop-n-test.true refl refl c.behind-left.ensures) c.in_ok-put_fanin.ensures;
      literals = rw c.behind-left.ensures (literals_behind-literals nets c.loop-n.left.now _ c.loop-n.invariant.literals);
    }

pub returns : goal.returns
returns g c =
    finish adds c.loop-n.invariant.going (entries-none c.args.net.now.nets c.loop-n.left.now c.args.fanins.now c.loop-n.n-index c.loop-n-test.false)

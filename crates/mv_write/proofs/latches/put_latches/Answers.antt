use Rattle.std.proofs.Common.{◌+◌, [], None, drop, map, ap}
use Rattle.std.specs.List.{flat_map}
use Rattle.mv_base.proofs.Gains.{next, stop, finish}
use Rattle.mv_page.proofs.Adding.{adds}
use Rattle.mv_lex.specs.Text.{line_text}
use Rattle.mv_net.specs.declared.parts.FlatLatch.{FlatLatch}
use Rattle.mv_text.specs.Text.{latch_words}
use Rattle.mv_write.proofs.Lines.{latches-more, latches-none}
use Rattle.mv_write.proofs.Held.{latch-ends-held}
use Rattle.mv_write.proofs.latches.put_latches.Goals as goal

-- what stands behind the last latch
abbrev none : FlatLatch
none = record { input = record { 0 = 0 }; output = record { 0 = 0 }; reset = None }

pub loop-latch-init : goal.loop-latch-init
loop-latch-init g c = record {
  done = [];
  all = ap (λ ls. flat_map line_text (map (latch_words c.args.net.now.nets) ls)) c.latches-latch-items.ensures;
  appended = adds.nothing _;
}

pub put_latch-requires-clause-input : goal.put_latch-requires-clause-input
put_latch-requires-clause-input g c =
    (latch-ends-held c.args.net.now c.latches-latch-items.result.now c.loop-latch.latch-index none c.well_formed-2.ensures c.latches-latch-items.ensures c.loop-latch-test.true).0

pub put_latch-requires-clause-output : goal.put_latch-requires-clause-output
put_latch-requires-clause-output g c =
    (latch-ends-held c.args.net.now c.latches-latch-items.result.now c.loop-latch.latch-index none c.well_formed-2.ensures c.latches-latch-items.ensures c.loop-latch-test.true).1

pub returns-in_err-put_latch : goal.returns-in_err-put_latch
returns-in_err-put_latch g c =
    let nets = c.args.net.now.nets in
    let latches = c.latches-latch-items.result.now in
    let i = c.loop-latch.latch-index in
    stop adds (flat_map line_text (map (latch_words nets) (drop (i + 1) latches))) _ _ c.loop-latch.invariant (latches-more nets latches i none c.loop-latch-test.true) c.in_err-put_latch.ensures c.from_residual.ensures.1

pub loop-latch-preserved : goal.loop-latch-preserved
loop-latch-preserved g c =
    next adds c.loop-latch.invariant (latches-more c.args.net.now.nets c.latches-latch-items.result.now c.loop-latch.latch-index none c.loop-latch-test.true) c.in_ok-put_latch.ensures

pub returns : goal.returns
returns g c =
    finish adds c.loop-latch.invariant (latches-none c.args.net.now.nets c.latches-latch-items.result.now c.loop-latch.latch-index c.loop-latch-test.false)

use Rattle.std.proofs.Common.{◌≡◌, ◌+◌, ◌<◌, length, [], None, ap, arith}
use Rattle.std.specs.List.{flat_map}
use Rattle.mv_base.proofs.Gains.{next, stop, finish}
use Rattle.mv_page.proofs.Adding.{adds}
use Rattle.mv_net.specs.declared.parts.FlatLatch.{FlatLatch}
use Rattle.mv_lex.specs.Text.{line_text}
use Rattle.mv_blif_text.specs.BlifText.{latches_words}
use Rattle.mv_write.proofs.Held.{latch-ends-held}
use Rattle.mv_blif_write.proofs.LatchText.{latches_text, latches-more, latches-none}
use Rattle.mv_blif_write.proofs.latches.put_latches.Goals as goal

-- what stands behind the last latch
abbrev none : FlatLatch
none = record { input = record { 0 = 0 }; output = record { 0 = 0 }; reset = None }

pub loop-at-init : goal.loop-at-init
loop-at-init g c = record {
  done = [];
  all = ap (λ ls. flat_map line_text (latches_words c.args.net.now.nets ls c.args.said.now)) c.latches-latches.ensures;
  appended = adds.nothing _;
}

pub put_latch-requires-clause-input : goal.put_latch-requires-clause-input
put_latch-requires-clause-input g c =
    (latch-ends-held c.args.net.now c.latches-latches.result.now c.loop-at.at none c.well_formed-2.ensures c.latches-latches.ensures c.loop-at-test.true).0

pub put_latch-requires-clause-output : goal.put_latch-requires-clause-output
put_latch-requires-clause-output g c =
    (latch-ends-held c.args.net.now c.latches-latches.result.now c.loop-at.at none c.well_formed-2.ensures c.latches-latches.ensures c.loop-at-test.true).1

pub returns-in_err-put_latch : goal.returns-in_err-put_latch
returns-in_err-put_latch g c =
    let nets = c.args.net.now.nets in
    let latches = c.latches-latches.result.now in
    let said = c.args.said.now in
    let i = c.loop-at.at in
    let long : length latches ≡ length c.args.net.now.latches = ap length c.latches-latches.ensures in
    let within : i < length said = omega arith in
    stop adds (latches_text nets latches said (i + 1)) _ _ c.loop-at.invariant (latches-more nets latches said i none c.index-said-at.result c.loop-at-test.true within c.index-said-at.is) c.in_err-put_latch.ensures c.from_residual.ensures.1

pub loop-at-preserved : goal.loop-at-preserved
loop-at-preserved g c =
    let latches = c.latches-latches.result.now in
    let said = c.args.said.now in
    let i = c.loop-at.at in
    let long : length latches ≡ length c.args.net.now.latches = ap length c.latches-latches.ensures in
    let within : i < length said = omega arith in
    next adds c.loop-at.invariant (latches-more c.args.net.now.nets latches said i none c.index-said-at.result c.loop-at-test.true within c.index-said-at.is) c.in_ok-put_latch.ensures

pub returns : goal.returns
returns g c =
    finish adds c.loop-at.invariant (latches-none c.args.net.now.nets c.latches-latches.result.now c.args.said.now c.loop-at.at c.loop-at-test.false)

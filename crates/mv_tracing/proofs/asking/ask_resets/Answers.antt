-- The value of one reset net more is asked, if there is one.
use Rattle.std.proofs.Common.{◌≤◌, length, None, arith}
use Rattle.mv_base.specs.declared.number.Value.{Value}
use Rattle.mv_net.specs.declared.parts.FlatLatch.{FlatLatch}
use Rattle.mv_tracing.proofs.Giving.{left_all, left_held, left_more, left_none, resets_more, resets_none}
use Rattle.mv_tracing.proofs.asking.ask_resets.Goals as goal

pub ask_reset-requires : goal.ask_reset-requires
ask_reset-requires c =
    let none : FlatLatch = record { input = record { 0 = 0 }; output = record { 0 = 0 }; reset = None } in
    let zero : Value = record { 0 = 0 } in
    left_held _ _ _ _ _ _ c.loop-at.invariant (resets_more c.args.latches.now c.args.values.now c.loop-at.at none zero c.requires.long (omega arith))

pub loop-at-init : goal.loop-at-init
loop-at-init c = left_none _ _ c.requires.held

pub loop-at-preserved : goal.loop-at-preserved
loop-at-preserved c =
    let none : FlatLatch = record { input = record { 0 = 0 }; output = record { 0 = 0 }; reset = None } in
    let zero : Value = record { 0 = 0 } in
    left_more _ _ _ _ _ _ _ c.loop-at.invariant (resets_more c.args.latches.now c.args.values.now c.loop-at.at none zero c.requires.long (omega arith)) c.ask_reset.ensures

pub returns : goal.returns
returns c =
    let high : length c.args.latches.now ≤ c.loop-at.at = omega arith in
    left_all _ _ _ _ c.loop-at.invariant (resets_none c.args.latches.now c.args.values.now c.loop-at.at high)

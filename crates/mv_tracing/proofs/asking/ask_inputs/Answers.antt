-- One value more is asked.
use Rattle.std.proofs.Common.{◌≤◌, [], ◌∷◌, length, None, arith}
use Rattle.mv_base.specs.declared.number.Value.{Value}
use Rattle.mv_net.specs.declared.parts.FlatLatch.{FlatLatch}
use Rattle.mv_tracing.proofs.Giving.{gives_one, left_all, left_held, left_more, left_none, pairs_more, pairs_none}
use Rattle.mv_tracing.proofs.asking.ask_inputs.Goals as goal

pub give-requires : goal.give-requires
give-requires c =
    let none : FlatLatch = record { input = record { 0 = 0 }; output = record { 0 = 0 }; reset = None } in
    let zero : Value = record { 0 = 0 } in
    (left_held _ _ (_ ∷ []) _ _ _ c.loop-at.invariant (pairs_more (λ (l : FlatLatch). l.input.0) c.args.latches.now c.args.values.now c.loop-at.at none zero c.requires.long (omega arith))).0

pub loop-at-init : goal.loop-at-init
loop-at-init c = left_none _ _ c.requires.held

pub loop-at-preserved : goal.loop-at-preserved
loop-at-preserved c =
    let none : FlatLatch = record { input = record { 0 = 0 }; output = record { 0 = 0 }; reset = None } in
    let zero : Value = record { 0 = 0 } in
    left_more _ _ _ (_ ∷ []) _ _ _ c.loop-at.invariant (pairs_more (λ (l : FlatLatch). l.input.0) c.args.latches.now c.args.values.now c.loop-at.at none zero c.requires.long (omega arith)) (gives_one _ _ _ _ c.give.ensures.order c.give.ensures.asked)

pub returns : goal.returns
returns c =
    let high : length c.args.latches.now ≤ c.loop-at.at = omega arith in
    left_all _ _ _ _ c.loop-at.invariant (pairs_none (λ (l : FlatLatch). l.input.0) c.args.latches.now c.args.values.now c.loop-at.at high)

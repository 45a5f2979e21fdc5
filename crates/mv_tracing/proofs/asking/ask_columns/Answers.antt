-- The values of a step's columns, asked in three parts.
use Rattle.std.proofs.Common.{◌++◌}
use Rattle.mv_tracing.proofs.Giving.{as_many, gives_then, inputs_long, latches_long, outputs_long, input_values, latch_values, output_values, ordered_left, ordered_right}
use Rattle.mv_tracing.proofs.asking.ask_columns.Goals as goal

pub ask_nets-requires-clause-long : goal.ask_nets-requires-clause-long
ask_nets-requires-clause-long c =
    as_many c.inputs.result.now c.args.net.now.inputs c.list.result.now c.args.step.now.inputs c.inputs.ensures c.list.ensures (inputs_long c.args.net.now c.args.step.now c.requires.fits)

pub ask_nets-requires-clause-held : goal.ask_nets-requires-clause-held
ask_nets-requires-clause-held c =
    let net = c.args.net.now in
    let step = c.args.step.now in
    rw (c.inputs.ensures, c.list.ensures) (ordered_left _ (input_values net step) (latch_values net step ++ output_values net step) c.requires.held)

pub ask_outputs-requires-clause-long : goal.ask_outputs-requires-clause-long
ask_outputs-requires-clause-long c =
    as_many c.latches.result.now c.args.net.now.latches c.list-2.result.now c.args.step.now.latches c.latches.ensures c.list-2.ensures (latches_long c.args.net.now c.args.step.now c.requires.fits)

pub ask_outputs-requires-clause-held : goal.ask_outputs-requires-clause-held
ask_outputs-requires-clause-held c =
    let net = c.args.net.now in
    let step = c.args.step.now in
    let behind = ordered_right _ (input_values net step) (latch_values net step ++ output_values net step) c.requires.held in
    rw (c.ask_nets.ensures.order, c.latches.ensures, c.list-2.ensures) (ordered_left _ (latch_values net step) (output_values net step) behind)

pub ask_nets-requires-2-clause-long : goal.ask_nets-requires-2-clause-long
ask_nets-requires-2-clause-long c =
    as_many c.outputs.result.now c.args.net.now.outputs c.list-3.result.now c.args.step.now.outputs c.outputs.ensures c.list-3.ensures (outputs_long c.args.net.now c.args.step.now c.requires.fits)

pub ask_nets-requires-2-clause-held : goal.ask_nets-requires-2-clause-held
ask_nets-requires-2-clause-held c =
    let net = c.args.net.now in
    let step = c.args.step.now in
    let behind = ordered_right _ (input_values net step) (latch_values net step ++ output_values net step) c.requires.held in
    rw (c.ask_outputs.ensures.order, c.ask_nets.ensures.order, c.outputs.ensures, c.list-3.ensures) (ordered_right _ (latch_values net step) (output_values net step) behind)

pub returns : goal.returns
returns c =
    let net = c.args.net.now in
    let step = c.args.step.now in
    let first = rw (c.inputs.ensures, c.list.ensures) at c.ask_nets.ensures in
    let second = rw (c.latches.ensures, c.list-2.ensures) at c.ask_outputs.ensures in
    let third = rw (c.outputs.ensures, c.list-3.ensures) at c.ask_nets-2.ensures in
    gives_then _ _ _ (input_values net step) (latch_values net step ++ output_values net step) first (gives_then _ _ _ (latch_values net step) (output_values net step) second third)

-- Latch values are asked where there is a step behind.
use Rattle.std.proofs.Common.{get_or, arith}
use Rattle.std.proofs.lemmas.List.Elements.{All-get_or}
use Rattle.std.proofs.lemmas.Option.{slice_get-get_or, slice_get_past}
use Rattle.mv_trace.specs.Given.{IsStepOf}
use Rattle.mv_tracing.proofs.Giving.{as_many, gives_none, latches_long}
use Rattle.mv_tracing.proofs.asking.ask_next.Goals as goal

pub ask_inputs-requires-clause-long : goal.ask_inputs-requires-clause-long
ask_inputs-requires-clause-long c =
    let run = c.args.run.now in
    let step = get_or run c.args.k c.index-run-k.result in
    let fits = All-get_or (IsStepOf c.args.net.now) run c.args.k c.index-run-k.result (omega arith) c.requires.fits in
    as_many c.latches.result.now c.args.net.now.latches c.list.result.now step.latches c.latches.ensures c.list.ensures (latches_long c.args.net.now step fits)

pub ask_inputs-requires-clause-held : goal.ask_inputs-requires-clause-held
ask_inputs-requires-clause-held c =
    let there = slice_get-get_or c.args.run.now c.args.k c.index-run-k.result (omega arith) in
    rw (c.latches.ensures, c.list.ensures) (rw there at c.requires.held)

pub returns-then-k-run : goal.returns-then-k-run
returns-then-k-run c =
    let there = slice_get-get_or c.args.run.now c.args.k c.index-run-k.result (omega arith) in
    rw there (rw (c.latches.ensures, c.list.ensures) at c.ask_inputs.ensures)

pub returns-else-k-run : goal.returns-else-k-run
returns-else-k-run c = rw (slice_get_past c.args.run.now c.args.k (omega arith)) (gives_none _)

-- A run without faults has a value of each net.
use Rattle.std.proofs.Common.{sym, subst, List}
use Rattle.std.specs.List.{All}
use Rattle.mv_trace.specs.declared.run.RunStep.{RunStep}
use Rattle.mv_trace.specs.Given.{IsStepOf}
use Rattle.mv_trace.proofs.Fits.{run_fits}
use Rattle.mv_trace.proofs.reader.read_run.Goals as goal

pub returns-clause-fits : goal.returns-clause-fits
returns-clause-fits c =
    let P : List RunStep → Type 0 = λ run. All (IsStepOf c.args.net.now) run in
    subst P (sym c.in_ok-steps.ensures.ok) (run_fits c.args.net.now c.args.lines.now c.well_formed-2.ensures c.in_ok-steps.ensures.fault)

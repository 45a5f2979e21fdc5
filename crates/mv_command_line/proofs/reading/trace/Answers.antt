-- The task has what the words ask for.
use Rattle.std.proofs.Common.{ap}
use Rattle.std.specs.Prelude.{option_map}
use Rattle.mv_command_line.specs.CommandLine.{trace}
use Rattle.mv_command_line.proofs.Named.{refused_too}
use Rattle.mv_command_line.proofs.reading.trace.Goals as goal

pub returns-in-Ok : goal.returns-in-Ok
returns-in-Ok c = ap (option_map trace) c.in-Ok.ensures

pub returns-in-Err : goal.returns-in-Err
returns-in-Err c = refused_too trace _ c.in-Err.stop c.in-Err.ensures

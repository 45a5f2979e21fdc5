use Rattle.mv_step.specs.Reading.{IsAt}
use Rattle.mv_step.proofs.reader.read_cert.Given as goal

abbrev pub invariant-loop-line : goal.invariant-loop-line
invariant-loop-line l = IsAt l.lines l.line-index l.steps l.current

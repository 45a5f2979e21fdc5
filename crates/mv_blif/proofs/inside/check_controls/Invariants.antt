use Rattle.std.proofs.Common.{◌≡◌, drop}
use Rattle.mv_blif.specs.Grammar.{controls_faults}
use Rattle.mv_blif.proofs.inside.check_controls.Given as goal

abbrev pub invariant-loop-line : goal.invariant-loop-line
invariant-loop-line l = controls_faults l.inputs (drop l.line-index l.lines) ≡ controls_faults l.inputs l.lines

use Rattle.std.proofs.Common.{◌≡◌, ◌+◌, [], drop}
use Rattle.mv_table.specs.Columns.{outputs_faults}
use Rattle.mv_table.proofs.columns.check_several.Given as goal

abbrev pub invariant-loop-at : goal.invariant-loop-at
invariant-loop-at l = outputs_faults l.number (l.before + l.at) l.seen (drop l.at l.outs) ≡ outputs_faults l.number l.before [] l.outs

use Rattle.std.proofs.Common.{map, take}
use Rattle.mv_joint.specs.Split.{all_rows}
use Rattle.mv_joint.specs.Plain.{mark_row}
use Rattle.mv_joint.specs.Gather.{PutsFrom}
use Rattle.mv_joint.proofs.mark.mark_lines.Given as goal

abbrev pub invariant-loop-row : goal.invariant-loop-row
invariant-loop-row l = PutsFrom l.frame.columns (map mark_row (all_rows l.frame.columns (take l.row-index l.table.rows))) l.most l.set

use Rattle.std.proofs.Common.{length, map}
use Rattle.mv_rows.specs.Once.{PutsRows}
use Rattle.mv_joint.specs.Plain.{mark_row}
use Rattle.mv_joint.proofs.Resting.{rests_below}
use Rattle.mv_joint.proofs.mark.+put_rest.Given as goal

abbrev pub decreases-put_rest : goal.decreases-put_rest
decreases-put_rest l = length l.entries.now

abbrev pub invariant-loop-value : goal.invariant-loop-value
invariant-loop-value l = PutsRows l.frame.columns (map mark_row (rests_below l.frame.columns l.rest l.place l.row l.value)) l.fn.set l.set

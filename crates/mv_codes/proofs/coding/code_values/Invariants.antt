use Rattle.mv_codes.proofs.Values.{AreCounted}
use Rattle.mv_codes.proofs.coding.code_values.Given as goal

abbrev pub invariant-back : goal.invariant-back
invariant-back l = AreCounted l.codes l.bits l.place l.values.items

abbrev pub decreases-back : goal.decreases-back
decreases-back l = l.place

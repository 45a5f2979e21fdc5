use Rattle.mv_factors.specs.Seen.{HasRows}
use Rattle.mv_factors.proofs.elimination.reserve_rows.Given as goal

abbrev pub invariant-loop-place : goal.invariant-loop-place
invariant-loop-place l = HasRows l.rows.items l.place l.vars

use Rattle.mv_dag.specs.Changing.{IsExchanged}
use Rattle.mv_dag.proofs.new_rows.exchange.Given as goal

abbrev pub invariant-loop-place : goal.invariant-loop-place
invariant-loop-place l = IsExchanged l.place l.initial.fanins l.fanins l.initial.rows l.rows

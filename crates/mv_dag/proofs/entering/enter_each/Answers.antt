-- One row after another.
use Rattle.std.proofs.Common.{arith}
use Rattle.mv_dag.proofs.Entered.{stage-first, stage-more, may_enter}
use Rattle.mv_dag.proofs.entering.enter_each.Goals as goal

pub loop-place-init : goal.loop-place-init
loop-place-init c = (stage-first c.args.fanins.now c.args.rows.now c.args.labels.now c.args.moves.now c.requires.none, c.requires.ready.ordered)

pub enter_row-requires-clause-may : goal.enter_row-requires-clause-may
enter_row-requires-clause-may c =
    may_enter c.loop-place.place c.args.fanins.now c.loop-place.fanins c.args.readers.now c.args.rows.now c.loop-place.rows c.args.labels.now c.loop-place.labels c.loop-place.moves c.requires.ready c.requires.part c.loop-place.invariant.0 c.loop-place.invariant.1 (omega arith)

pub loop-place-preserved : goal.loop-place-preserved
loop-place-preserved c = (
  stage-more c.loop-place.place c.args.fanins.now c.loop-place.fanins c.enter_row.new.fanins c.args.readers.now c.args.rows.now c.loop-place.rows c.enter_row.new.rows c.args.labels.now c.loop-place.labels c.enter_row.new.labels c.loop-place.moves c.enter_row.new.moves c.requires.ready c.loop-place.invariant.0 (omega arith) c.in_ok-enter_row.ensures.ok,
  c.in_ok-enter_row.ensures.ok.ordered,
)

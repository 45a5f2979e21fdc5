-- One row more has changed places.
use Rattle.std.proofs.Common.{arith}
use Rattle.mv_dag.proofs.Exchanged.{exchanged-first, exchanged-net, exchanged-more}
use Rattle.mv_dag.proofs.new_rows.exchange.Goals as goal

pub loop-place-init : goal.loop-place-init
loop-place-init c = exchanged-first c.args.fanins.now c.args.rows.now

pub exchange_row-requires-clause-net : goal.exchange_row-requires-clause-net
exchange_row-requires-clause-net c =
    exchanged-net c.loop-place.place c.args.fanins.now c.loop-place.fanins c.args.rows.now c.loop-place.rows c.loop-place.invariant (omega arith) c.requires.nets

pub loop-place-preserved : goal.loop-place-preserved
loop-place-preserved c =
    exchanged-more c.loop-place.place c.args.fanins.now c.loop-place.fanins c.exchange_row.new.fanins c.args.rows.now c.loop-place.rows c.exchange_row.new.rows c.loop-place.invariant (omega arith) c.requires.nets c.requires.once c.exchange_row.ensures.fanins c.exchange_row.ensures.rows

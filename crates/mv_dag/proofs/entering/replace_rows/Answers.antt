-- The rows of all nets are taken out first, and put back on an error.
use Rattle.mv_dag.proofs.Entered.{blank-small, blank-once, taken_ready, taken_part, taken_goal, got_olds, got_small, got_once, taken_back}
use Rattle.mv_dag.proofs.entering.replace_rows.Goals as goal

pub exchange-requires-clause-nets : goal.exchange-requires-clause-nets
exchange-requires-clause-nets c = blank-small c.args.rows.now c.args.olds.now _ c.requires.olds c.requires.ready.may.nets

pub exchange-requires-clause-once : goal.exchange-requires-clause-once
exchange-requires-clause-once c = blank-once c.args.rows.now c.args.olds.now c.requires.olds c.requires.ready.may.once

pub enter_rows-requires-clause-ready : goal.enter_rows-requires-clause-ready
enter_rows-requires-clause-ready c =
    taken_ready c.args.rows.now c.args.olds.now c.exchange.new.rows c.args.fanins.now c.exchange.new.fanins c.len-count.result c.requires.olds c.len-count.ensures c.exchange.ensures c.args.readers.now c.args.labels.now c.requires.ready

pub enter_rows-requires-clause-part : goal.enter_rows-requires-clause-part
enter_rows-requires-clause-part c =
    taken_part c.args.rows.now c.args.olds.now c.exchange.new.rows c.args.fanins.now c.exchange.new.fanins c.len-count.result c.requires.olds c.len-count.ensures c.exchange.ensures

pub exchange-requires-in-Err-clause-nets : goal.exchange-requires-in-Err-clause-nets
exchange-requires-in-Err-clause-nets c =
    got_small c.args.rows.now c.args.olds.now c.exchange.new.rows c.args.fanins.now c.exchange.new.fanins c.len-count.result c.requires.olds c.len-count.ensures c.exchange.ensures c.enter_rows.new.fanins c.in-Err.ensures.err_fanins c.requires.ready.may.nets

pub exchange-requires-in-Err-clause-once : goal.exchange-requires-in-Err-clause-once
exchange-requires-in-Err-clause-once c =
    got_once c.args.rows.now c.args.olds.now c.exchange.new.rows c.args.fanins.now c.exchange.new.fanins c.len-count.result c.requires.olds c.len-count.ensures c.exchange.ensures c.requires.ready.may.once

pub returns-in-Ok-clause-fanins : goal.returns-in-Ok-clause-fanins
returns-in-Ok-clause-fanins c =
    taken_goal c.args.rows.now c.args.olds.now c.exchange.new.rows c.args.fanins.now c.exchange.new.fanins c.len-count.result c.requires.olds c.len-count.ensures c.exchange.ensures c.enter_rows.new.fanins c.in-Ok.ensures.fanins

pub returns-in-Ok-clause-olds : goal.returns-in-Ok-clause-olds
returns-in-Ok-clause-olds c =
    got_olds c.args.rows.now c.args.olds.now c.exchange.new.rows c.args.fanins.now c.exchange.new.fanins c.len-count.result c.requires.olds c.len-count.ensures c.exchange.ensures

pub returns-in-Err-clause-err_fanins : goal.returns-in-Err-clause-err_fanins
returns-in-Err-clause-err_fanins c =
    taken_back c.args.rows.now c.args.olds.now c.exchange.new.rows c.args.fanins.now c.exchange.new.fanins c.len-count.result c.requires.olds c.len-count.ensures c.exchange.ensures c.enter_rows.new.fanins c.exchange-in-Err.new.fanins c.exchange-in-Err.new.rows c.in-Err.ensures.err_fanins c.requires.ready.may.nets c.requires.ready.may.once
    c.exchange-in-Err.ensures

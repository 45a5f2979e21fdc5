-- On an error the rows that came go again.
use Rattle.std.proofs.Common.{◌∙◌, ap, length}
use Rattle.mv_graph.specs.Nets.{all_differ}
use Rattle.mv_dag.proofs.Exchanged.{exchanged-back}
use Rattle.mv_dag.proofs.Entered.{exchanged-small, exchanged-nets, were_at-small}
use Rattle.mv_dag.proofs.entering.enter_rows.Goals as goal

pub exchange-requires-clause-nets : goal.exchange-requires-clause-nets
exchange-requires-clause-nets c =
    let stage = c.enter_each.ensures.stage in
    exchanged-small (length c.enter_each.new.moves) c.args.fanins.now c.enter_each.new.fanins c.args.rows.now c.enter_each.new.rows stage.inside stage.exchanged c.requires.ready.may.nets

pub exchange-requires-clause-once : goal.exchange-requires-clause-once
exchange-requires-clause-once c =
    ap all_differ (exchanged-nets (length c.enter_each.new.moves) c.args.fanins.now c.enter_each.new.fanins c.args.rows.now c.enter_each.new.rows c.enter_each.ensures.stage.exchanged) ∙ c.requires.ready.may.once

pub put_all_back-requires : goal.put_all_back-requires
put_all_back-requires c = were_at-small c.args.labels.now c.enter_each.new.moves c.enter_each.new.labels c.enter_each.ensures.stage.moved

pub returns-clause-err_fanins : goal.returns-clause-err_fanins
returns-clause-err_fanins c =
    let stage = c.enter_each.ensures.stage in
    let ready = c.requires.ready.may in
    (exchanged-back (length c.enter_each.new.moves) c.args.fanins.now c.enter_each.new.fanins c.exchange.new.fanins c.args.rows.now c.enter_each.new.rows c.exchange.new.rows stage.inside ready.nets ready.once stage.exchanged
    (rw c.len.ensures at c.exchange.ensures)).0

pub returns-clause-err_rows : goal.returns-clause-err_rows
returns-clause-err_rows c =
    let stage = c.enter_each.ensures.stage in
    let ready = c.requires.ready.may in
    (exchanged-back (length c.enter_each.new.moves) c.args.fanins.now c.enter_each.new.fanins c.exchange.new.fanins c.args.rows.now c.enter_each.new.rows c.exchange.new.rows stage.inside ready.nets ready.once stage.exchanged
    (rw c.len.ensures at c.exchange.ensures)).1

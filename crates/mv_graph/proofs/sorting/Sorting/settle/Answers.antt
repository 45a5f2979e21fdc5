-- After one more net of the order no net waits for it.
use Rattle.std.proofs.Common.{◌+◌, length}
use Rattle.std.proofs.lemmas.Result.{on_ok_weaker}
use Rattle.mv_graph.specs.Sorting.{ArePlaced, HasLooked}
use Rattle.mv_graph.proofs.Waiting.{net_read, waiters_below, settled}
use Rattle.mv_graph.proofs.sorting.Sorting.settle.Goals as goal

pub look_at-requires-clause-nets : goal.look_at-requires-clause-nets
look_at-requires-clause-nets c = rw (c.as_slice.ensures, c.release-nets.ensures.nets) (waiters_below c.args.columns.now c.args.self.now c.index-net.result.now.0 c.requires.placed.sorting)

pub returns : goal.returns
returns c =
    on_ok_weaker {P = HasLooked c.args.columns.now c.release-nets.new.self c.look_at.new.self c.as_slice.result.now} {Q = ArePlaced c.args.columns.now c.look_at.new.self (c.args.place + 1) (length c.args.columns.now)} c.look_at.result
    (λ f.
    settled c.args.columns.now c.args.self.now c.release-nets.new.self c.look_at.new.self c.index-net.result.now c.args.place c.requires.placed c.requires.inside
    (net_read c.args.self.now.order.items c.args.place c.index-net.result.now c.requires.inside c.index-net.ensures) c.release-nets.ensures.rest
    (rw (c.as_slice.ensures, c.release-nets.ensures.nets) at f))
    c.look_at.ensures

-- A net that isn't in the order waits for its first column that isn't, or goes to the end of the order.
use Rattle.std.proofs.Common.{refl}
use Rattle.std.proofs.lemmas.Result.{on_ok_weaker}
use Rattle.mv_graph.proofs.Waiting.{columns_read, looked_then, looked_else}
use Rattle.mv_graph.proofs.sorting.Sorting.look.Goals as goal

pub returns-then-place-fanins : goal.returns-then-place-fanins
returns-then-place-fanins c =
    on_ok_weaker c.wait.result
    (looked_then c.args.columns.now c.args.self.now c.wait.new.self c.args.net _ _ _ _ _ c.requires.below c.requires.sorting c.requires.net
    (columns_read c.args.columns.now c.args.net.0 _ _ c.requires.net c.index-columns-number.is c.as_slice-fanins.ensures)
    c.as_slice.ensures.value c.index-2.ensures c.if-place-fanins.true refl c.first_open-place.ensures.before c.first_open-place.ensures.stop)
    c.wait.ensures

pub returns-else-place-fanins : goal.returns-else-place-fanins
returns-else-place-fanins c =
    on_ok_weaker c.finish.result
    (looked_else c.args.columns.now c.args.self.now c.finish.new.self c.args.net _ _ _ _ _ c.requires.sorting c.requires.net c.index.ensures c.if-index-gt0.false
    (columns_read c.args.columns.now c.args.net.0 _ _ c.requires.net c.index-columns-number.is c.as_slice-fanins.ensures)
    c.as_slice.ensures.value c.index-2.ensures c.if-place-fanins.false c.first_open-place.ensures.before)
    c.finish.ensures

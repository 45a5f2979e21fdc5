use Rattle.std.proofs.Common.{length}
use Rattle.mv_dag.proofs.Added.{ordered_push, stands_behind}
use Rattle.mv_dag.proofs.Small.{small_id}
use Rattle.mv_dag.proofs.labels.add_label.Goals as goal

pub returns-clause-ok : goal.returns-clause-ok
returns-clause-ok c =
    rw (c.in_ok-push.ensures.items, c.behind.ensures)
    (ordered_push c.args.fanins.now c.args.labels.now.items c.greatest-last.result c.requires.ordered c.requires.room c.requires.below)

pub returns-clause-behind : goal.returns-clause-behind
returns-clause-behind c m h =
    rw (c.in_ok-push.ensures.items, c.behind.ensures)
    (stands_behind c.args.fanins.now c.args.labels.now.items c.greatest-last.result c.requires.ordered c.requires.room m
    (small_id (length c.args.fanins.now) c.args.near.now c.requires.near m h)
    (rw c.as_slice.ensures.value at (c.greatest-last.ensures m h)))

-- The turned entries are as many as the entries, and of the same nets.
use Rattle.std.proofs.Common.{length, arith}
use Rattle.mv_dag.proofs.Small.{small_either}
use Rattle.mv_dag.proofs.Written.{IsSmall}
use Rattle.mv_dag.proofs.Planned.{length-turned_by, All-turned_by, entries_small}
use Rattle.mv_dag.proofs.moves.share.Goals as goal

pub write-requires-clause-long : goal.write-requires-clause-long
write-requires-clause-long c =
    rw (c.as_slice-4.ensures.value, c.in_ok-turned.ensures, c.as_slice-3.ensures.value, c.as_slice-5.ensures.value)
    (let e = length-turned_by c.args.above.now.keys c.in_ok-moves.moves.items in omega arith)

pub write-requires-clause-nets : goal.write-requires-clause-nets
write-requires-clause-nets c =
    let labels = c.args.labels.now in
    let moves = c.in_ok-moves.moves.items in
    rw (c.as_slice-4.ensures.value, c.in_ok-turned.ensures, c.as_slice-3.ensures.value)
    (All-turned_by (IsSmall labels) c.args.above.now.keys moves
    (entries_small labels c.as_slice.result.now c.as_slice-2.result.now moves
    (small_either (length labels) c.as_slice.result.now c.as_slice-2.result.now (rw c.as_slice.ensures.keys c.requires.above) (rw c.as_slice-2.ensures.keys c.requires.below))
    c.in_ok-moves.ensures))

use Rattle.std.proofs.Common.{◌∙◌, ◌++◌, List, map, ap}
use Rattle.mv_dag.specs.declared.moves.Entry.{Entry}
use Rattle.mv_dag.specs.Moves.{entry_of}
use Rattle.mv_dag.proofs.Sorted.{are_entries}
use Rattle.mv_dag.proofs.moves.entries_of.Goals as goal

pub returns : goal.returns
returns c =
    let labels = c.args.labels.now in
    are_entries labels c.args.above.now c.args.below.now _ _ _
    (c.in_ok-add_entries-2.ensures ∙ ap (λ (es : List Entry). es ++ map (entry_of labels) c.args.below.now)
    (c.in_ok-add_entries.ensures ∙ ap (λ (es : List Entry). es ++ map (entry_of labels) c.args.above.now) c.new-entries.ensures.items))
    c.sort_unstable.ensures.permutation c.sort_unstable.ensures.sorted c.dedup.ensures.filtered

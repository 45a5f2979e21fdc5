use Rattle.std.proofs.Common.{ℕ, ◌<◌, List, length, All}
use Rattle.mv_dag.specs.declared.moves.Entry.{Entry}
use Rattle.mv_dag.specs.Changing.{WereAt}
use Rattle.mv_dag.proofs.entering.put_all_back.Given as goal

abbrev pub invariant-back : goal.invariant-back
invariant-back l =
    All (λ (es : List Entry). All (λ (e : Entry). e.net.0 < length l.labels) es) l.moves
    × ((before : List ℕ) → WereAt before l.initial.moves l.initial.labels → WereAt before l.moves l.labels)

abbrev pub decreases-back : goal.decreases-back
decreases-back l = length l.moves

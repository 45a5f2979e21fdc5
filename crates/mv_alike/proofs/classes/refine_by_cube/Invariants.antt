use Rattle.std.proofs.Common.{take}
use Rattle.std.specs.List.{list_any}
use Rattle.mv_merging.specs.Verdicts.{literal_splits}
use Rattle.mv_alike.specs.Classes.{AreRefined}
use Rattle.mv_alike.proofs.classes.refine_by_cube.Given as goal

abbrev pub invariant-loop-l : goal.invariant-loop-l
invariant-loop-l l = AreRefined (λ u v. list_any (literal_splits l.n.0 u v) (take l.l-index l.lits)) l.fn.classes.items l.classes.items

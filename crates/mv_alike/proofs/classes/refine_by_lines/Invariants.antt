use Rattle.std.proofs.Common.{take}
use Rattle.std.specs.List.{list_any}
use Rattle.mv_cover.specs.declared.line.Line.{Line}
use Rattle.mv_merging.specs.Verdicts.{literal_splits}
use Rattle.mv_alike.specs.Classes.{AreRefined}
use Rattle.mv_alike.proofs.classes.refine_by_lines.Given as goal

abbrev pub invariant-loop-line : goal.invariant-loop-line
invariant-loop-line l = AreRefined (λ u v. list_any (λ (k : Line). list_any (literal_splits l.n.0 u v) k.cube) (take l.line-index l.lines)) l.fn.classes.items l.classes.items

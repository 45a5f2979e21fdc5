-- Line by line.
use Rattle.std.proofs.Common.{ℕ, ◌∙◌, Bool, ap}
use Rattle.std.specs.List.{list_any}
use Rattle.mv_cover.specs.declared.line.Line.{Line}
use Rattle.mv_merging.specs.Verdicts.{literal_splits}
use Rattle.mv_alike.proofs.Refining.{lines_tell, refined_begin, refined_alike, refined_item, refined_whole}
use Rattle.mv_alike.proofs.classes.refine_by_lines.Goals as goal

pub loop-line-init : goal.loop-line-init
loop-line-init c = refined_begin (lines_tell c.args.n.0) c.args.lines.now c.args.classes.now.items c.requires.numbered

pub refine_by_cube-requires-clause-few : goal.refine_by_cube-requires-clause-few
refine_by_cube-requires-clause-few c = rw c.loop-line.invariant.long c.requires.few

pub refine_by_cube-requires-clause-numbered : goal.refine_by_cube-requires-clause-numbered
refine_by_cube-requires-clause-numbered c = c.loop-line.invariant.numbered

pub loop-line-preserved : goal.loop-line-preserved
loop-line-preserved c =
    refined_item (lines_tell c.args.n.0) c.args.lines.now c.loop-line.line-index c.line-item.result c.args.classes.now.items c.loop-line.classes.items
    c.refine_by_cube.new.classes.items c.loop-line-test.true c.line-item.is c.loop-line.invariant
    (refined_alike (λ u v. list_any (literal_splits c.args.n.0 u v) c.lits.result.now) (λ u v. lines_tell c.args.n.0 u v c.line-item.result) c.loop-line.classes.items
    c.refine_by_cube.new.classes.items (λ u v. ap (list_any (literal_splits c.args.n.0 u v)) c.lits.ensures.lits) c.in_ok-refine_by_cube.ensures)

pub returns : goal.returns
returns c =
    refined_whole (lines_tell c.args.n.0) c.args.lines.now c.loop-line.line-index c.args.classes.now.items c.loop-line.classes.items c.loop-line-test.false c.loop-line.invariant

-- Literal by literal.
use Rattle.mv_merging.specs.Verdicts.{literal_splits}
use Rattle.mv_alike.proofs.Refining.{refined_begin, refined_item, refined_whole}
use Rattle.mv_alike.proofs.classes.refine_by_cube.Goals as goal

pub loop-l-init : goal.loop-l-init
loop-l-init c = refined_begin (literal_splits c.args.n.0) c.args.lits.now c.args.classes.now.items c.requires.numbered

pub refine_by_literal-requires-clause-few : goal.refine_by_literal-requires-clause-few
refine_by_literal-requires-clause-few c = rw c.loop-l.invariant.long c.requires.few

pub refine_by_literal-requires-clause-numbered : goal.refine_by_literal-requires-clause-numbered
refine_by_literal-requires-clause-numbered c = c.loop-l.invariant.numbered

pub loop-l-preserved : goal.loop-l-preserved
loop-l-preserved c =
    refined_item (literal_splits c.args.n.0) c.args.lits.now c.loop-l.l-index c.l-item.result c.args.classes.now.items c.loop-l.classes.items c.refine_by_literal.new.classes.items
    c.loop-l-test.true c.l-item.is c.loop-l.invariant c.in_ok-refine_by_literal.ensures

pub returns : goal.returns
returns c =
    refined_whole (literal_splits c.args.n.0) c.args.lits.now c.loop-l.l-index c.args.classes.now.items c.loop-l.classes.items c.loop-l-test.false c.loop-l.invariant

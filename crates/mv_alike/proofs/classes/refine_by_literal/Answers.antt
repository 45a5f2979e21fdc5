-- A literal on another net tells nothing.
use Rattle.std.proofs.Common.{◌∙◌, sym}
use Rattle.mv_alike.proofs.Refining.{refined_off, refined_on}
use Rattle.mv_alike.proofs.classes.refine_by_literal.Goals as goal

pub returns-then-net-n : goal.returns-then-net-n
returns-then-net-n c = refined_off c.args.n.0 c.net.result.0 c.args.l.now c.args.classes.now.items c.net.ensures.number c.if-net-n.true c.requires.numbered

pub refined-requires-clause-few : goal.refined-requires-clause-few
refined-requires-clause-few c = rw c.as_slice.ensures.value c.requires.few

pub refined-requires-clause-numbered : goal.refined-requires-clause-numbered
refined-requires-clause-numbered c = rw c.as_slice.ensures.value c.requires.numbered

pub returns : goal.returns
returns c =
    refined_on c.args.n.0 c.net.result.0 c.set.result c.args.l.now c.args.classes.now.items c.in_ok-classes.field-0.items c.net.ensures.number c.if-net-n.false c.set.ensures
    (rw c.as_slice.ensures.value at c.in_ok-classes.ensures)

-- A table below that isn't total decides, and else the net's own.
use Rattle.mv_partial.proofs.Marking.{below_marks, here_marks}
use Rattle.mv_partial.proofs.partial.is_partial.Goals as goal

pub returns-then-is_partial_below : goal.returns-then-is_partial_below
returns-then-is_partial_below c = below_marks c.args.net.now.nets c.args.n.0 (rw c.if-is_partial_below.true at c.is_partial_below.ensures)

pub returns-in-Ok : goal.returns-in-Ok
returns-in-Ok c = here_marks c.args.net.now.nets c.args.n.0 _ (rw c.if-is_partial_below.false at c.is_partial_below.ensures) c.in-Ok.ensures

-- One of the names can't be that of a new net, or two are equal.
use Rattle.mv_plans.proofs.Encoded.{new_names}
use Rattle.mv_plans.proofs.fresh.are_new_names.Goals as goal

pub returns-then-not-all_new : goal.returns-then-not-all_new
returns-then-not-all_new c = λ names. (rw c.if-not-all_new.true at c.all_new.ensures) names.each

pub returns : goal.returns
returns c = new_names c.args.net.now.nets c.args.names.now c.all_differ.result c.all_differ.ensures (rw c.if-not-all_new.false at c.all_new.ensures)

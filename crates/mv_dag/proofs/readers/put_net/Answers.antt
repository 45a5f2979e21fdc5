-- At its place the net comes, or stands.
use Rattle.mv_dag.proofs.Ascending.{ascending-put, ascending-there}
use Rattle.mv_dag.proofs.readers.put_net.Goals as goal

pub returns-in_ok-insert-clause-ok : goal.returns-in_ok-insert-clause-ok
returns-in_ok-insert-clause-ok c =
    ascending-put c.args.nets.now c.insert.new.self c.in-Err.place c.args.net c.requires (rw c.as_slice.ensures at c.in-Err.ensures) c.in_ok-insert.ensures.ok

pub returns-in_default-clause-ok : goal.returns-in_default-clause-ok
returns-in_default-clause-ok c = ascending-there c.args.nets.now c.in_default.field-0 c.args.net c.requires (rw c.as_slice.ensures at c.in_default.ensures)

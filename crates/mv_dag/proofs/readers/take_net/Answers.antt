-- From its place the net goes, or it stands nowhere.
use Rattle.mv_dag.proofs.Ascending.{ascending-take, ascending-out}
use Rattle.mv_dag.proofs.readers.take_net.Goals as goal

pub returns-in-Ok : goal.returns-in-Ok
returns-in-Ok c =
    ascending-take c.args.nets.now c.remove.new.self c.in-Ok.place c.args.net c.requires (rw c.as_slice.ensures at c.in-Ok.ensures) c.remove.ensures.items

pub returns-in_default : goal.returns-in_default
returns-in_default c = ascending-out c.args.nets.now c.in_default.field-0 c.args.net c.requires (rw c.as_slice.ensures at c.in_default.ensures)

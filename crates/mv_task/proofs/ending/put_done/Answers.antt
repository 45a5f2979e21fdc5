-- The line's number is that of the network's literals.
use Rattle.mv_task.proofs.ending.put_done.Goals as goal

pub returns : goal.returns
returns g c = rw c.literals.ensures at c.put_note.ensures

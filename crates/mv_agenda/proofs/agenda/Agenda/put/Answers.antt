-- One key more, where it isn't there already.
use Rattle.mv_agenda.proofs.Waiting.{puts}
use Rattle.mv_agenda.proofs.agenda.Agenda.put.Goals as goal

pub returns : goal.returns
returns c = rw (← c.self.view_is) (puts c.self.inside.nets c.insert.new.self c.args.n.0 c.in_ok-insert.ensures.updates)

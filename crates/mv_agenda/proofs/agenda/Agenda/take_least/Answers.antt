-- The first key is the least.
use Rattle.std.proofs.lemmas.Bool.{false≢true}
use Rattle.mv_agenda.proofs.Waiting.{takes_least, none_waits, empty}
use Rattle.mv_agenda.proofs.agenda.Agenda.take_least.Goals as goal

pub returns-in_default : goal.returns-in_default
returns-in_default c = rw (← c.self.view_is) (none_waits _ (empty _ (λ some. false≢true (c.in_default.ensures.variant.1 some))))

pub returns : goal.returns
returns c =
    let e = c.in-Some.ensures in
    rw (← c.self.view_is) (takes_least c.self.inside.nets c.pop_first.new.self c.in-Some.number e.member e.least e.updates e.removal)

-- The numbers are put one by one.
use Rattle.mv_agenda.proofs.Waiting.{none_below, one_more_below, puts}
use Rattle.mv_agenda.proofs.agenda.Agenda.of_all.Goals as goal

pub loop-number-init : goal.loop-number-init
loop-number-init c = none_below _ c.new-nets.ensures.empty

pub loop-number-preserved : goal.loop-number-preserved
loop-number-preserved c =
    let at = c.loop-number.number in
    one_more_below _ _ at c.loop-number.invariant (puts c.loop-number.nets c.insert.new.self at c.in_ok-insert.ensures.updates)

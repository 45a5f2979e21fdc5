-- The text is that of the drawn network.
use Rattle.mv_opt.proofs.take.take_drawn.Goals as goal

pub returns-in-Ok-network_of_text-clause-gives : goal.returns-in-Ok-network_of_text-clause-gives
returns-in-Ok-network_of_text-clause-gives c =
    rw (c.as_slice.ensures.value, c.in-Ok.ensures) at c.in-Ok-network_of_text.ensures.gives

pub returns-clause-stops : goal.returns-clause-stops
returns-clause-stops c =
    rw (c.as_slice.ensures.value, c.in-Ok.ensures) at c.in-Err-network_of_text.ensures.stops

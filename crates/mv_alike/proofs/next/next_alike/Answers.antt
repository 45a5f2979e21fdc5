-- The first two of one class are the first two that no literal tells apart.
use Rattle.mv_alike.proofs.Choosing.{next_none, next_pair}
use Rattle.mv_alike.proofs.next.next_alike.Goals as goal

pub first_pair-requires-clause-few : goal.first_pair-requires-clause-few
first_pair-requires-clause-few c = rw c.as_slice.ensures.value c.in_ok-classes.ensures.few

pub first_pair-requires-clause-numbered : goal.first_pair-requires-clause-numbered
first_pair-requires-clause-numbered c = rw c.as_slice.ensures.value c.in_ok-classes.ensures.classes.numbered

pub returns-in-None : goal.returns-in-None
returns-in-None c =
    next_none c.args.net.now.nets c.args.n.0 c.in_ok-classes.classes.items c.in_ok-classes.ensures.classes c.requires.given (rw c.as_slice.ensures.value at c.in-None.ensures)

pub returns : goal.returns
returns c =
    next_pair c.args.net.now.nets c.args.n.0 c.in_ok-classes.classes.items c.in-Some.pair c.in_ok-classes.ensures.classes c.requires.table c.requires.several
    c.requires.given (rw c.as_slice.ensures.value at c.in-Some.ensures)

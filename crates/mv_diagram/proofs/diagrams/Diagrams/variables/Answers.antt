use Rattle.mv_diagram.proofs.Finding.{placed_all, tested_all}
use Rattle.mv_diagram.proofs.Showing.{whole_same, shown_same}
use Rattle.mv_diagram.proofs.diagrams.Diagrams.variables.Goals as goal

pub find-requires-clause-held : goal.find-requires-clause-held
find-requires-clause-held c = (rw (← c.self.view_is) at c.requires.held).is

pub mark_tested-requires-clause-sound : goal.mark_tested-requires-clause-sound
mark_tested-requires-clause-sound c = rw (c.find.ensures.counts, c.find.ensures.same) c.self.invariant.sound

pub mark_tested-requires-clause-found : goal.mark_tested-requires-clause-found
mark_tested-requires-clause-found c =
    rw (c.find.ensures.same, c.as_slice.ensures.value)
    (placed_all c.self.inside.table.counts.items c.self.inside.table.pool.places c.self.invariant.sound c.args.a (rw (← c.self.view_is) at c.requires.held).is c.find.new.found.items c.find.ensures.found)

pub mark_tested-requires-clause-long : goal.mark_tested-requires-clause-long
mark_tested-requires-clause-long c = rw c.find.ensures.counts (rw (← c.self.view_is) at c.requires.long)

pub invariant_of-self : goal.invariant_of-self
invariant_of-self c = whole_same c.self.inside.table c.find.new.table _ _ _ _ _ _ _ c.find.ensures.counts c.find.ensures.same c.find.ensures.room c.self.invariant

pub returns-clause-same : goal.returns-clause-same
returns-clause-same c = rw (← c.self.view_is) (shown_same c.self.inside.table c.find.new.table c.self.inside.reclaims c.find.ensures.counts c.find.ensures.same)

pub returns-clause-long : goal.returns-clause-long
returns-clause-long c = rw (← c.self.view_is) (rw c.find.ensures.counts at c.mark_tested.ensures.long)

pub returns-clause-seen : goal.returns-clause-seen
returns-clause-seen c =
    rw (← c.self.view_is)
    (tested_all c.self.inside.table.counts.items c.self.inside.table.pool.places c.self.invariant.sound c.args.a (rw (← c.self.view_is) at c.requires.held).is c.self.inside.table.pool.cap c.self.inside.reclaims
    c.find.new.found.items c.mark_tested.new.seen c.find.ensures.found (rw (c.find.ensures.same, c.as_slice.ensures.value) at c.mark_tested.ensures.seen))

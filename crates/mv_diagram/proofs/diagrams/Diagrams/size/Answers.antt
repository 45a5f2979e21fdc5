use Rattle.std.proofs.Common.{sym, subst}
use Rattle.mv_diagram.specs.Found.{IsSize}
use Rattle.mv_diagram.proofs.Showing.{whole_same, shown_same}
use Rattle.mv_diagram.proofs.diagrams.Diagrams.size.Goals as goal

pub find-requires-clause-held : goal.find-requires-clause-held
find-requires-clause-held c = (rw (← c.self.view_is) at c.requires).is

pub invariant_of-self : goal.invariant_of-self
invariant_of-self c = whole_same c.self.inside.table c.find.new.table _ _ _ _ _ _ _ c.find.ensures.counts c.find.ensures.same c.find.ensures.room c.self.invariant

pub returns-clause-same : goal.returns-clause-same
returns-clause-same c = rw (← c.self.view_is) (shown_same c.self.inside.table c.find.new.table c.self.inside.reclaims c.find.ensures.counts c.find.ensures.same)

pub returns-clause-size : goal.returns-clause-size
returns-clause-size c = rw (← c.self.view_is) (subst (IsSize c.self.inside.table.pool.places c.args.a) (sym c.find.ensures.count) c.find.ensures.found.size)

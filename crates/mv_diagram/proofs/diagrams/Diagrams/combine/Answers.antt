use Rattle.std.proofs.Common.{arith}
use Rattle.mv_diagram.proofs.Showing.{whole_adds, Keeps-adds, result_shown, lacks_shown, added_shown}
use Rattle.mv_diagram.proofs.diagrams.Diagrams.combine.Goals as goal

pub returns-clause-keeps : goal.returns-clause-keeps
returns-clause-keeps c = rw (← c.self.view_is) (Keeps-adds c.self.inside.table c.apply.new.table c.self.inside.reclaims c.self.invariant.sound c.apply.ensures.adds)

pub returns-clause-set : goal.returns-clause-set
returns-clause-set c =
    rw (← c.self.view_is)
    (result_shown c.args.operation c.self.inside.table c.apply.new.table c.self.inside.reclaims c.args.a c.args.b c.self.invariant.sound c.apply.ensures.adds
    (rw (← c.self.view_is) at c.requires.left) (rw (← c.self.view_is) at c.requires.right) c.apply.result c.apply.ensures.ok)

pub returns-clause-lacks : goal.returns-clause-lacks
returns-clause-lacks c =
    rw (← c.self.view_is)
    (lacks_shown c.args.operation c.self.inside.table c.apply.new.table c.self.inside.reclaims c.args.a c.args.b c.self.invariant.sound c.apply.ensures.adds
    (rw (← c.self.view_is) at c.requires.left) (rw (← c.self.view_is) at c.requires.right) c.apply.result c.apply.ensures.lacking)

pub invariant_of-self : goal.invariant_of-self
invariant_of-self c = whole_adds c.self.inside.table c.apply.new.table _ _ _ _ _ _ _ _ c.apply.ensures.adds (omega arith) c.apply.ensures.remembers c.self.invariant

pub returns-clause-added : goal.returns-clause-added
returns-clause-added c =
    rw (← c.self.view_is)
    (added_shown c.args.operation c.self.inside.table c.apply.new.table c.self.inside.reclaims c.args.a c.args.b c.self.invariant.sound c.apply.ensures.adds
    (rw (← c.self.view_is) at c.requires.left) (rw (← c.self.view_is) at c.requires.right) c.apply.ensures.added)

pub returns-clause-values : goal.returns-clause-values
returns-clause-values c = c.apply.ensures.adds.sound.values

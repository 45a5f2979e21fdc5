use Rattle.std.proofs.Common.{arith}
use Rattle.mv_diagram.proofs.Showing.{whole_adds, Keeps-adds, added_literal}
use Rattle.mv_diagram.proofs.Tables.{table_remembers}
use Rattle.mv_diagram.proofs.diagrams.Diagrams.cube.Goals as goal

pub invariant_of-self : goal.invariant_of-self
invariant_of-self c = whole_adds c.self.inside.table c.cube_of.new.table _ _ _ _ _ _ _ _ c.cube_of.ensures.adds (omega arith) (table_remembers c.self.inside.table c.cube_of.new.table c.self.invariant.sound c.cube_of.ensures.adds c.self.inside.memo.entries c.self.invariant.remembers) c.self.invariant

pub returns-clause-keeps : goal.returns-clause-keeps
returns-clause-keeps c = rw (← c.self.view_is) (Keeps-adds c.self.inside.table c.cube_of.new.table c.self.inside.reclaims c.self.invariant.sound c.cube_of.ensures.adds)

pub returns-clause-added : goal.returns-clause-added
returns-clause-added c = rw (← c.self.view_is) (added_literal c.self.inside.table c.cube_of.new.table c.self.inside.reclaims _ c.cube_of.ensures.added)

use Rattle.std.proofs.Common.{◌∙◌, ap}
use Rattle.mv_pool.specs.Walks.{mark}
use Rattle.mv_diagram.proofs.Showing.{whole_adds, Keeps-adds, spread_shown, answers_shown}
use Rattle.mv_diagram.proofs.diagrams.Diagrams.spread.Goals as goal

pub invariant_of-self : goal.invariant_of-self
invariant_of-self c = whole_adds c.self.inside.table c.quantify.new.table _ _ _ _ _ _ _ _ c.quantify.ensures.adds c.choose.ensures.room c.quantify.ensures.remembers c.self.invariant

pub returns-clause-keeps : goal.returns-clause-keeps
returns-clause-keeps c = rw (← c.self.view_is) (Keeps-adds c.self.inside.table c.quantify.new.table c.self.inside.reclaims c.self.invariant.sound c.quantify.ensures.adds)

pub returns-clause-set : goal.returns-clause-set
returns-clause-set c =
    rw (← c.self.view_is)
    (spread_shown c.self.inside.table c.quantify.new.table c.self.inside.reclaims c.args.a c.args.b c.args.vars.now (mark c.as_slice.result.now)
    (λ v. ap (λ m. mark m v) c.as_slice.ensures.value ∙ c.choose.ensures.marked v)
    c.self.invariant.sound c.quantify.ensures.adds (rw (← c.self.view_is) at c.requires.left) (rw (← c.self.view_is) at c.requires.right) c.args.answer c.quantify.result c.quantify.ensures.ok)

pub returns-clause-added : goal.returns-clause-added
returns-clause-added c =
    rw (← c.self.view_is)
    (answers_shown c.self.inside.table c.quantify.new.table c.self.inside.reclaims c.args.a c.args.b c.args.vars.now (mark c.as_slice.result.now)
    (λ v. ap (λ m. mark m v) c.as_slice.ensures.value ∙ c.choose.ensures.marked v)
    c.self.invariant.sound c.quantify.ensures.adds (rw (← c.self.view_is) at c.requires.left) (rw (← c.self.view_is) at c.requires.right) c.args.answer c.quantify.ensures.added)

pub returns-clause-values : goal.returns-clause-values
returns-clause-values c = c.quantify.ensures.adds.sound.values

-- The name is new, or known.
use Rattle.std.proofs.Common.{sym, ◌∙◌, refl}
use Rattle.mv_unfold.proofs.ByName.{name_new, name_known}
use Rattle.mv_unfold.proofs.by_name.FirstPlaces.add.Goals as goal

pub returns-in_ok-push : goal.returns-in_ok-push
returns-in_ok-push c = λ ws h e.
    name_new c.args.self.now (record { names = c.add.new.self; numbers = c.push.new.self }) ws c.args.name c.args.place
    (sym c.in_ok-add.ensures.fresh ∙ c.if-branch.true) c.in_ok-add.ensures.ok c.in_ok-push.ensures.ok h e

pub returns-else-branch : goal.returns-else-branch
returns-else-branch c = λ ws h e.
    name_known c.args.self.now (record { names = c.add.new.self; numbers = c.args.self.now.numbers }) ws c.args.name
    (sym c.in_ok-add.ensures.fresh ∙ c.if-branch.false) c.in_ok-add.ensures.ok refl h

-- What was looked at makes the model sound.
use Rattle.std.proofs.Common.{◌≡◌, rules, true, subst}
use Rattle.std.specs.Prelude.{IfSome}
use Rattle.std.specs.List.{list_all}
use Rattle.mv_acyclic.specs.Glance.{inputs_known, AreApartDrivers}
use Rattle.mv_acyclic.proofs.Apart.{driven_once, known_sound}
use Rattle.mv_acyclic.proofs.seen.sound.Goals as goal

pub stands-requires-clause-once : goal.stands-requires-clause-once
stands-requires-clause-once c =
    driven_once c.args.model.now c.in-Some.numbers (subst (λ o. IfSome o (AreApartDrivers c.args.model.now)) c.in-Some.is c.in_ok-numbers.ensures)
    (search rules) (search rules)

pub returns : goal.returns
returns c =
    let m = c.args.model.now in
    let numbers = c.in-Some.numbers in
    known_sound m numbers (subst (λ o. IfSome o (AreApartDrivers m)) c.in-Some.is c.in_ok-numbers.ensures) (search rules)
    (subst (λ o. IfSome o (λ _. list_all (inputs_known numbers) m.tables ≡ true)) c.in-Some-2.is c.in_ok-columns.ensures.known) (search rules) (search rules) (search rules)

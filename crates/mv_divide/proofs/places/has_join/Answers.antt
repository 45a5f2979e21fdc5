-- A join is found by its number.
use Rattle.std.proofs.Common.{◌≡◌, ◌∙◌, Bool, ◌||◌, sym, ap, nat_eq}
use Rattle.std.proofs.lemmas.Bool.{or_left}
use Rattle.std.specs.List.{list_any}
use Rattle.indexmap.specs.IndexMap.{get}
use Rattle.mv_divide.specs.Found as spec
use Rattle.mv_divide.proofs.Placing.{finds}
use Rattle.mv_divide.proofs.places.has_join.Goals as goal

pub returns-then-join_at_some : goal.returns-then-join_at_some
returns-then-join_at_some c =
    let last = get nat_eq c.args.places.now.last in
    let earlier = c.args.places.now.earlier.items in
    let at = spec.join_at_some c.args.cubes.now c.args.s.now c.args.d.now in
    let some = list_any (spec.join_at c.args.cubes.now c.args.s.now c.args.d.now) earlier in
    let is : c.join_at_some.result ≡ at (last c.args.number) = c.join_at_some.ensures ∙ ap at (c.copied-last.ensures ∙ c.get.ensures.value) in
    let found = finds c.args.cubes.now last earlier c.args.s.now c.args.d.now c.args.number c.requires.placed c.requires.formed c.requires.number in
    c.if-join_at_some.true ∙ (sym (or_left (at (last c.args.number)) some (sym is ∙ c.if-join_at_some.true)) ∙ found)

pub returns-else-join_at_some : goal.returns-else-join_at_some
returns-else-join_at_some c =
    let last = get nat_eq c.args.places.now.last in
    let earlier = c.args.places.now.earlier.items in
    let at = spec.join_at_some c.args.cubes.now c.args.s.now c.args.d.now in
    let any = list_any (spec.join_at c.args.cubes.now c.args.s.now c.args.d.now) in
    let is : c.join_at_some.result ≡ at (last c.args.number) = c.join_at_some.ensures ∙ ap at (c.copied-last.ensures ∙ c.get.ensures.value) in
    let found = finds c.args.cubes.now last earlier c.args.s.now c.args.d.now c.args.number c.requires.placed c.requires.formed c.requires.number in
    c.join_at_any.ensures ∙ (ap any c.as_slice.ensures.value ∙ (sym (ap (λ (b : Bool). b || any earlier) (sym is ∙ c.if-join_at_some.false)) ∙ found))

-- Some number is found before the type's numbers end, since fewer names are taken than there are numbers.
use Rattle.std.proofs.Common.{◌≡◌, ◌∙◌, true, is_none, ap, arith}
use Rattle.std.proofs.lemmas.Grind.{common_steps}
use Rattle.mv_flat.specs.Numbers.{made_name}
use Rattle.mv_flat.proofs.MadeNames.{next_found, next_ends}
use Rattle.mv_flat.proofs.fresh.next_made.Goals as goal

pub returns-then-is_none : goal.returns-then-is_none
returns-then-is_none c =
    next_found c.args.names.now c.args.last c.loop-number.number c.in_ok-name.name c.place.result (omega (arith, c.loop-number.auto.number)) (omega (arith, c.loop-number-test.true)) (c.in_ok-name.ensures ∙ ap made_name c.from.ensures) c.place.ensures (let e : is_none c.place.result ≡ true = grind (arith, common_steps) in e) c.loop-number.invariant

pub unreachable-requires : goal.unreachable-requires
unreachable-requires c =
    next_ends c.args.names.now c.args.last c.loop-number.number c.requires c.loop-number-test.false c.loop-number.invariant

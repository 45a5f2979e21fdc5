-- The net that stood there is one of those that were counted.
use Rattle.std.proofs.Common.{◌≡◌, ◌∙◌, ◌+◌, ◌-◌, None, List, Option, set, sym, ap, subst, arith}
use Rattle.std.proofs.lemmas.Option.{get_or_from_slice_get}
use Rattle.mv_net.specs.declared.parts.FlatNet.{FlatNet}
use Rattle.mv_net.specs.declared.tallies.Tallies.{Tallies}
use Rattle.mv_net.specs.Nets.{slot}
use Rattle.mv_net.specs.Tallies.{AreTallies}
use Rattle.mv_net.proofs.Tallied.{weight, AreTallies-set, literals-most, weight-within}
use Rattle.mv_net.proofs.tallies.replace_net.Goals as goal
use Rattle.mv_net.proofs.tallies.replace_net.Goals.{After-literals_of_net}

weighed : (c : After-literals_of_net) → c.literals_of_net.result ≡ weight (slot c.args.nets.now c.args.at)
weighed c = c.literals_of_net.ensures.value ∙ ap weight (sym (get_or_from_slice_get c.args.nets.now c.args.at c.replace-before.result None c.replace-before.ensures.before))

pub overflow_sub-tallies : goal.overflow_sub-tallies
overflow_sub-tallies c = omega (arith, weighed c, weight-within c.args.nets.now c.args.at c.requires.inside, c.requires.tallies.literals)

pub overflow_add-tallies : goal.overflow_add-tallies
overflow_add-tallies c = omega (arith, literals-most c.args.nets.now (record { each = c.requires.tallies.few }), c.requires.tallies.literals, c.literals_of_net-literals.ensures.few)

pub returns-clause-before : goal.returns-clause-before
returns-clause-before c = sym (get_or_from_slice_get c.args.nets.now c.args.at c.replace-before.result None c.replace-before.ensures.before)

pub returns-clause-tallies : goal.returns-clause-tallies
returns-clause-tallies c =
    let nets = c.args.nets.now in
    let new : Tallies = record { counts = c.replace.new.self; literals = (c.args.tallies.now.literals - c.literals_of_net.result) + c.literals_of_net-literals.result } in
    let was : c.literals_of_net.result ≡ weight (slot nets c.args.at) = c.literals_of_net.ensures.value ∙ ap weight (sym (get_or_from_slice_get nets c.args.at c.replace-before.result None c.replace-before.ensures.before)) in
    let P : List (Option FlatNet) → Type 0 = λ l. AreTallies l new in
    subst P (sym c.replace-before.ensures.items)
    (AreTallies-set nets c.args.at c.args.net c.args.tallies.now new c.requires.inside (omega (arith, c.literals_of_net-literals.ensures.value, c.literals_of_net-literals.ensures.few)) c.requires.tallies
    (c.replace.ensures.items ∙ ap (set c.args.tallies.now.counts c.args.at) c.values_of.ensures)
    (omega (arith, was, weight-within nets c.args.at c.requires.inside, c.requires.tallies.literals, c.literals_of_net-literals.ensures.value)))

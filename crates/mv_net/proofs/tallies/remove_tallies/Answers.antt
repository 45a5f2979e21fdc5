-- The nets that stay and those that go are all that were counted.
use Rattle.std.proofs.Common.{◌≡◌, ◌∙◌, ◌-◌, ap, drop, arith}
use Rattle.std.proofs.lemmas.List.{take_rest}
use Rattle.mv_net.specs.declared.tallies.Tallies.{Tallies}
use Rattle.mv_net.specs.Nets.{literals_in}
use Rattle.mv_net.proofs.Tallied.{AreTallies-fewer, literals-parts}
use Rattle.mv_net.proofs.tallies.remove_tallies.Goals as goal

pub overflow_sub-tallies : goal.overflow_sub-tallies
overflow_sub-tallies c =
    let gone : c.literals_in.result ≡ literals_in (drop c.args.long c.args.nets.now) = c.literals_in.ensures.value ∙ ap literals_in (take_rest c.args.nets.now c.args.long) in
    omega (arith, literals-parts c.args.nets.now c.args.long, c.requires.known.literals)

pub returns : goal.returns
returns c =
    let new : Tallies = record { counts = c.truncate.new.self; literals = c.args.tallies.now.literals - c.literals_in.result } in
    let gone : c.literals_in.result ≡ literals_in (drop c.args.long c.args.nets.now) = c.literals_in.ensures.value ∙ ap literals_in (take_rest c.args.nets.now c.args.long) in
    AreTallies-fewer c.args.nets.now c.args.long c.args.tallies.now new c.requires.within c.requires.known c.truncate.ensures
    (omega (arith, literals-parts c.args.nets.now c.args.long, c.requires.known.literals))

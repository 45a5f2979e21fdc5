-- All nets are those that were counted and those from the number on.
use Rattle.std.proofs.Common.{arith}
use Rattle.mv_net.proofs.Tallied.{tallies_more, literals-most}
use Rattle.mv_net.proofs.tallies.add_tallies.Goals as goal

pub overflow_add-tallies : goal.overflow_add-tallies
overflow_add-tallies c =
    let t = tallies_more c.args.nets.now c.args.long c.args.tallies.now c.add_counts.new.counts c.literals_in.result c.requires.known c.literals_in.ensures.few c.in_ok-add_counts.ensures.ok c.literals_in.ensures.value in
    omega (arith, literals-most c.args.nets.now (record { each = t.few }), t.literals)

pub returns-clause-ok : goal.returns-clause-ok
returns-clause-ok c =
    tallies_more c.args.nets.now c.args.long c.args.tallies.now c.add_counts.new.counts c.literals_in.result c.requires.known c.literals_in.ensures.few c.in_ok-add_counts.ensures.ok c.literals_in.ensures.value

use Rattle.std.proofs.Common.{arith}
use Rattle.std.proofs.lemmas.Grind.{common_steps}
use Rattle.mv_net.proofs.Tallied.{literals_in-sum, few_next, few_all}
use Rattle.mv_net.proofs.tallies.literals_in.Goals as goal

pub loop-net-preserved : goal.loop-net-preserved
loop-net-preserved c = record {
  value = grind (arith, common_steps, literals_in-sum);
  most = omega arith;
  few = few_next c.args.nets.now c.loop-net.net-index c.net-item.result c.net-item.is (omega arith) (rw c.literals_of_net-total.ensures.value at c.literals_of_net-total.ensures.few) c.loop-net.invariant.few;
}

pub returns-clause-few : goal.returns-clause-few
returns-clause-few c = few_all c.args.nets.now c.loop-net.net-index (omega arith) c.loop-net.invariant.few

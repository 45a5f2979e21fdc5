use Rattle.std.proofs.Common.{◌∙◌, arith}
use Rattle.std.proofs.lemmas.Grind.{common_steps}
use Rattle.mv_net.proofs.Changed.{write_done, counts_first, count_write}
use Rattle.mv_net.proofs.settle.set_counts.Goals as goal

pub all-preserved : goal.all-preserved
all-preserved c = record {
  long = grind (arith, common_steps);
  each = λ n.
      write_done counts_first count_write c.all.nets c.take_net-net.new.nets c.put_net.new.nets c.all.values c.pop.new.self c.in-Some.new c.in-Some.ensures.some c.take_net-net.ensures.nets (cc) n ∙ c.all.invariant.each n;
  tallies = c.put_net.ensures.tallies;
}

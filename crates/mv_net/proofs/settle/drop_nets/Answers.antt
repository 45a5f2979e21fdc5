-- The net that goes leaves its place, and the others stay.
use Rattle.std.proofs.Common.{◌∙◌, None, ap, length}
use Rattle.std.proofs.lemmas.List.{length-set}
use Rattle.mv_net.proofs.Changed.{dropped}
use Rattle.mv_net.proofs.settle.drop_nets.Goals as goal

pub all-preserved : goal.all-preserved
all-preserved c = record {
  long = ap length c.drop_net.ensures.nets ∙ (length-set c.all.nets c.in-Some.n.0 None ∙ c.all.invariant.long);
  each = λ m. dropped c.all.nets c.drop_net.new.nets c.pop.new.self c.all.gone c.in-Some.n c.in-Some.ensures.some c.drop_net.ensures.nets m ∙ c.all.invariant.each m;
  tallies = c.drop_net.ensures.tallies;
  names = c.drop_net.ensures.names;
  made = c.drop_net.ensures.made;
}

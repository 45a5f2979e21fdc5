use Rattle.std.proofs.Common.{◌≡◌, ℕ, None, length, if◌then◌else◌}
use Rattle.mv_net.specs.Nets.{slot}
use Rattle.mv_graph.specs.Nets.{has_id}
use Rattle.mv_net.specs.Fresh.{AreMade}
use Rattle.mv_net.specs.Names.{AreNames}
use Rattle.mv_net.specs.Tallies.{AreTallies}
use Rattle.mv_net.proofs.settle.drop_nets.Given as goal

abbrev pub invariant-all : goal.invariant-all
invariant-all l = record {
  long : length l.nets ≡ length l.fn.nets;
  each : (n : ℕ) → (if has_id l.gone n then None else slot l.nets n) ≡ (if has_id l.fn.gone n then None else slot l.fn.nets n);
  tallies : AreTallies l.nets l.tallies;
  names : AreNames l.nets l.names;
  made : AreMade l.nets l.made;
}

abbrev pub decreases-all : goal.decreases-all
decreases-all l = length l.gone

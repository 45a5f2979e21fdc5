use Rattle.std.proofs.Common.{◌≡◌, ℕ, length}
use Rattle.std.specs.Option.{option_map}
use Rattle.mv_net.specs.Nets.{slot}
use Rattle.mv_net.specs.Changes.{table_for, with_table}
use Rattle.mv_net.specs.Tallies.{AreTallies}
use Rattle.mv_net.proofs.settle.set_tables.Given as goal

abbrev pub invariant-all : goal.invariant-all
invariant-all l = record {
  long : length l.nets ≡ length l.fn.nets;
  each : (n : ℕ) → option_map (with_table (table_for n l.set)) (slot l.nets n) ≡ option_map (with_table (table_for n l.fn.set)) (slot l.fn.nets n);
  tallies : AreTallies l.nets l.tallies;
}

abbrev pub decreases-all : goal.decreases-all
decreases-all l = length l.set

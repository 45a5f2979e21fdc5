-- A net with a table is held, and has some values.
use Rattle.std.proofs.Common.{arith, ◌-◌}
use Rattle.mv_net.proofs.Known.{values_few}
use Rattle.mv_merging.proofs.Changing.{held_tabled, some_values}
use Rattle.mv_merging.proofs.change.merging_at.Goals as goal

pub values-left-requires : goal.values-left-requires
values-left-requires c = held_tabled c.args.net.now.nets c.args.n.0 c.requires

pub overflow_sub-left : goal.overflow_sub-left
overflow_sub-left c = let some = some_values c.args.net.now c.args.n.0 c.well_formed-2.ensures c.requires in omega (arith, c.values-left.ensures)

pub returns-clause-is : goal.returns-clause-is
returns-clause-is c = λ i. record { left = c.values-left.ensures i - 1; gone = c.args.gone; into = c.args.into }

pub returns-clause-few : goal.returns-clause-few
returns-clause-few c = let few = values_few c.args.net.now c.args.n.0 c.well_formed-2.ensures in omega (arith, c.values-left.ensures)

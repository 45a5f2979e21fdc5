-- The columns fit the table.
use Rattle.mv_flat.proofs.Unmarked.{own_apart, own_file}
use Rattle.mv_flat.proofs.covers.joint_covers.Goals as goal

pub joint_past-requires-clause-columns : goal.joint_past-requires-clause-columns
joint_past-requires-clause-columns c = (own_apart c.args.names.now c.args.table.now c.args.columns.now c.requires.columns c.requires.chosen).inputs

pub joint_past-requires-clause-table : goal.joint_past-requires-clause-table
joint_past-requires-clause-table c = own_file c.args.names.now c.args.table.now c.args.columns.now c.requires.columns

-- What stands for the table fits the columns, as the table does.
use Rattle.std.proofs.Common.{sym, subst}
use Rattle.mv_joint.specs.Plain.{IsJointFile}
use Rattle.mv_shapes.proofs.shared.SharedTable.joint_table.Goals as goal

pub joint_table-requires-clause-table : goal.joint_table-requires-clause-table
joint_table-requires-clause-table c =
    c.self.invariant.stands.file c.args.columns.now (subst (IsJointFile c.args.columns.now) (sym c.self.view_is) c.requires.table)

-- What stands for the table fits the columns, as the table does.
use Rattle.std.proofs.Common.{sym, subst}
use Rattle.mv_joint.specs.Plain.{IsJointFile}
use Rattle.mv_shapes.proofs.shared.SharedTable.is_joint_marked.Goals as goal

pub is_joint_marked-requires-clause-table : goal.is_joint_marked-requires-clause-table
is_joint_marked-requires-clause-table c =
    c.self.invariant.stands.file c.args.columns.now (subst (IsJointFile c.args.columns.now) (sym c.self.view_is) c.requires.table)

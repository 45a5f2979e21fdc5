use Rattle.mv_joint.proofs.OneJoint.{one_joint}
use Rattle.mv_joint.proofs.laws.at_most_one_joint_table.Goals as goal

pub returns : goal.returns
returns c = λ columns t mark choice one other h. one_joint columns t mark choice one other h.inputs h.marked h.chosen

use Rattle.mv_joint.proofs.JointMarked.{joint_marked_exactly, joint_marked_alike}
use Rattle.mv_joint.proofs.laws.mark_laws.Goals as goal

pub returns : goal.returns
returns c = record { exactly = joint_marked_exactly; numbers = joint_marked_alike }

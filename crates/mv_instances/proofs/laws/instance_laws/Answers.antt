use Rattle.mv_instances.proofs.Lawful.{instance-enough, instance-lawful, instance-new}
use Rattle.mv_instances.proofs.Accepted.{instance-accepted}
use Rattle.mv_instances.proofs.laws.instance_laws.Goals as goal

pub returns : goal.returns
returns c = record { enough = instance-enough; lawful = instance-lawful; new = instance-new; accepted = instance-accepted }

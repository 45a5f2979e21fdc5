use Rattle.mv_walk.proofs.Grown.{some_tree}
use Rattle.mv_walk.proofs.Nothing.{no_fault}
use Rattle.mv_walk.proofs.Unique.{one_tree}
use Rattle.mv_walk.proofs.laws.walk_laws.Goals as goal

pub returns : goal.returns
returns c = record { tree = some_tree; none = no_fault; one = one_tree }

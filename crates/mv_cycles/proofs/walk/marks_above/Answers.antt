-- The marks when the walk ends.
use Rattle.std.proofs.Common.{length, arith}
use Rattle.mv_cycles.proofs.Walks.{walk_all}
use Rattle.mv_cycles.proofs.walk.marks_above.Goals as goal

pub returns : goal.returns
returns c = walk_all c.args.columns.now c.args.net.0 (length c.go.new.self.listed.items) c.go.new.self c.in_ok-go.ensures (omega arith)

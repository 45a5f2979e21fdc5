-- A list of readers that isn't empty has one.
use Rattle.std.proofs.Common.{◌∙◌, sym}
use Rattle.mv_plans.proofs.Named.{listed_reader}
use Rattle.mv_sweep.proofs.way.way_of.Goals as goal

pub way_of_read-requires-clause-read : goal.way_of_read-requires-clause-read
way_of_read-requires-clause-read c =
    listed_reader c.args.net.now.nets c.args.n.0 c.readers.result.now c.readers.ensures (sym c.is_empty.ensures ∙ c.if-is_empty.false)

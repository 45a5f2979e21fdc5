use Rattle.std.proofs.Common.{sym}
use Rattle.mv_gains.proofs.Gathering.{read_by_none}
use Rattle.mv_gains.proofs.cube_gains.readers_of.Goals as goal

pub returns-then-not-holds : goal.returns-then-not-holds
returns-then-not-holds c = read_by_none c.args.net.now c.args.n.0 c.well_formed-2.ensures (sym c.if-not-holds.ensures)

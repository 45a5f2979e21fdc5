-- No net has the name, or the only one that has it has no table.
use Rattle.std.proofs.Common.{refl}
use Rattle.mv_plans.proofs.Named.{unnamed}
use Rattle.mv_plans.proofs.lookup.tabled.Goals as goal

pub returns-in-None : goal.returns-in-None
returns-in-None c = unnamed c.args.net.now c.args.name.now (rw c.bytes.ensures at (c.in-None.ensures.none refl))

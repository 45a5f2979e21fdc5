use Rattle.std.proofs.Common.{refl}
use Rattle.mv_body.proofs.Numbers.{number-found, number-missing}
use Rattle.mv_body.proofs.literal.number_said.Goals as goal

pub returns-in-Some : goal.returns-in-Some
returns-in-Some c = number-found c.args.net.now c.in-Some.number.0 c.args.name.now c.well_formed-2.ensures c.in-Some.ensures.some

pub returns-in-None : goal.returns-in-None
returns-in-None c = number-missing c.args.net.now.nets c.args.name.now (c.in-None.ensures.none refl)

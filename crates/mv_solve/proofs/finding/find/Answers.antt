use Rattle.std.proofs.Common.{refl, arith}
use Rattle.mv_solve.proofs.Putting.{one_part}
use Rattle.mv_solve.proofs.finding.find.Goals as goal

pub search-requires-clause-way : goal.search-requires-clause-way
search-requires-clause-way c = one_part c.args.net.now.nets c.args.order.now c.args.asked.now c.args.order.now c.start_once.new.starts c.requires.order refl (omega (arith, c.requires.room.begun, c.start_once.auto.starts)) c.start_once.ensures

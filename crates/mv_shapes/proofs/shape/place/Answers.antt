use Rattle.std.proofs.Common.{arith}
use Rattle.mv_shapes.proofs.Placing.{IsFound, found, never_missed}
use Rattle.mv_shapes.proofs.shape.place.Goals as goal
use Rattle.mv_shapes.proofs.shape.place.Goals.{In-Ok}

here : (c : In-Ok) → IsFound c.args.nets.now c.args.net c.in-Ok.place
here c = found c.args.nets.now c.args.net c.in-Ok.place c.requires.ascend c.in-Ok.ensures.bound c.in-Ok.ensures.ok

pub overflow_cast-result : goal.overflow_cast-result
overflow_cast-result c = let small = (here c).small in omega (arith, small)

pub unreachable-requires : goal.unreachable-requires
unreachable-requires c = never_missed c.args.nets.now c.args.net c.in-Err._place c.requires.ascend c.requires.among c.in-Err.ensures.position

pub returns-clause-is : goal.returns-clause-is
returns-clause-is c = (here (goal.at.returns-clause-is c).In-Ok).is

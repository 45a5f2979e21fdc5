use Rattle.std.proofs.Common.{refl}
use Rattle.mv_diagram.proofs.Counting.{counts_tested}
use Rattle.mv_bench.proofs.meets.meet.Goals as goal

pub with_room-requires : goal.with_room-requires
with_room-requires c = counts_tested _ refl

pub and-requires-clause-left : goal.and-requires-clause-left
and-requires-clause-left c = c.in-Ok-drawn_set.ensures.kept c.in-Ok.left c.in-Ok.ensures.held

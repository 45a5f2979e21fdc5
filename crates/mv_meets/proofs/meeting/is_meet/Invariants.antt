use Rattle.std.proofs.Common.{take}
use Rattle.mv_meets.specs.Search.{HasPair}
use Rattle.mv_meets.proofs.meeting.is_meet.Given as goal

abbrev pub invariant-loop-one : goal.invariant-loop-one
invariant-loop-one l = HasPair l.cubes (take l.one-index l.places) l.places l.d → ⊥

use Rattle.std.proofs.Common.{take}
use Rattle.mv_meets.specs.Groups.{from_net, places_in, IsNoted}
use Rattle.mv_meets.proofs.groups.note_all.Given as goal

abbrev pub invariant-loop-literal : goal.invariant-loop-literal
invariant-loop-literal l = IsNoted (from_net l.low (take l.literal-index l.literals)) l.place (places_in l.fn.groups) (places_in l.groups)

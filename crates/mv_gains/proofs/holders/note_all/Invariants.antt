use Rattle.std.proofs.Common.{take}
use Rattle.mv_gains.specs.Holders.{IsNoted, places_in}
use Rattle.mv_gains.proofs.holders.note_all.Given as goal

abbrev pub invariant-loop-literal : goal.invariant-loop-literal
invariant-loop-literal l = IsNoted (take l.literal-index l.literals) l.number (places_in l.fn.holders) (places_in l.holders)

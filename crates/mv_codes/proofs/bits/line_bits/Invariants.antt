use Rattle.std.proofs.Common.{◌≡◌, map, take}
use Rattle.mv_codes.specs.Tables.{line_bit}
use Rattle.mv_codes.proofs.bits.line_bits.Given as goal

abbrev pub invariant-loop-line : goal.invariant-loop-line
invariant-loop-line l = l.all ≡ map (line_bit l.split) (take l.line-index l.lines)

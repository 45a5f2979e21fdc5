use Rattle.std.proofs.Common.{◌≡◌, take}
use Rattle.mv_decl.specs.Line.{number_said, told_number}
use Rattle.mv_decl.proofs.count.number.Given as goal

abbrev pub invariant-loop-byte : goal.invariant-loop-byte
invariant-loop-byte l = l.number ≡ told_number (number_said (take l.byte-index l.digits))

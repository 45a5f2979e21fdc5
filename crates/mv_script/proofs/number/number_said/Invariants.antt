-- The number of the digits so far.
use Rattle.std.proofs.Common.{◌≡◌, take}
use Rattle.std.specs.Prelude.{min}
use Rattle.mv_script.specs.Numbers.{number_said}
use Rattle.mv_script.proofs.number.number_said.Given as goal

abbrev pub invariant-loop-byte : goal.invariant-loop-byte
invariant-loop-byte l = l.number ≡ min (number_said (take l.byte-index l.digits)) 10000

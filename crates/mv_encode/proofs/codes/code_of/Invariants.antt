-- The digits so far and those that are left are all.
use Rattle.std.proofs.Common.{◌≡◌, ◌≤◌, ◌++◌}
use Rattle.mv_encode.specs.Encodes.{binary}
use Rattle.mv_encode.proofs.codes.code_of.Given as goal

abbrev pub invariant-digits : goal.invariant-digits
invariant-digits l = record { low : l.left ≤ l.bits; so_far : l.digits ++ binary l.left l.value ≡ binary l.bits l.value }

abbrev pub decreases-digits : goal.decreases-digits
decreases-digits l = l.left

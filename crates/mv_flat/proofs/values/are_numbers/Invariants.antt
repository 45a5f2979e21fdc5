use Rattle.std.proofs.Common.{◌≡◌, drop}
use Rattle.mv_flat.specs.Numbers.{are_numbers}
use Rattle.mv_flat.specs.Values.{numbers_from}
use Rattle.mv_flat.proofs.values.are_numbers.Given as goal

abbrev pub invariant-loop-place : goal.invariant-loop-place
invariant-loop-place l = numbers_from l.place (drop l.place l.values) ≡ are_numbers l.values

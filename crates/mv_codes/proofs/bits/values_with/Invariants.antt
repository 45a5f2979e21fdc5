use Rattle.std.proofs.Common.{◌≡◌}
use Rattle.mv_codes.specs.Tables.{values_with}
use Rattle.mv_codes.proofs.bits.values_with.Given as goal

abbrev pub invariant-loop-v : goal.invariant-loop-v
invariant-loop-v l = l.values ≡ values_with l.codes l.place l.bit l.v

-- The codes so far are those of the first values.
use Rattle.std.proofs.Common.{◌≡◌}
use Rattle.mv_encode.specs.Encodes.{codes_of}
use Rattle.mv_encode.proofs.codes.codes_of.Given as goal

abbrev pub invariant-loop-value : goal.invariant-loop-value
invariant-loop-value l = l.codes ≡ codes_of l.bits l.value

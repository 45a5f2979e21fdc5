-- The room is that of so many bits, and fewer have too little.
use Rattle.std.proofs.Common.{◌-◌}
use Rattle.mv_encode.proofs.Binary.{IsDoubled}
use Rattle.mv_encode.proofs.codes.fewest_bits.Given as goal

abbrev pub invariant-doubling : goal.invariant-doubling
invariant-doubling l = IsDoubled l.values l.bits l.room

abbrev pub decreases-doubling : goal.decreases-doubling
decreases-doubling l = l.values - l.room

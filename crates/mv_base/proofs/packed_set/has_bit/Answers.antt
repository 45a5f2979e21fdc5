-- A bit is told by a shift, and there is none above.
use Rattle.std.proofs.Common.{refl, arith}
use Rattle.std.proofs.lemmas.Bool.Decides.{nat_tests}
use Rattle.std.proofs.lemmas.Nat.Bits.{shr_and_one}
use Rattle.mv_base.specs.Set.{has}
use Rattle.mv_base.proofs.Sets.{has_above}
use Rattle.mv_base.proofs.packed_set.has_bit.Goals as goal

pub returns-then-value-lt64 : goal.returns-then-value-lt64
unfolding has
returns-then-value-lt64 c = rw (shr_and_one c.args.bits) refl

pub returns-else-value-lt64 : goal.returns-else-value-lt64
returns-else-value-lt64 c =
    let none = has_above 64 c.args.bits c.args.value.0 (omega arith) (omega arith) in
    grind (arith, nat_tests)

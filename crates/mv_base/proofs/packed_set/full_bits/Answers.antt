-- A shift gives the power, and the highest number is one less than one.
use Rattle.std.proofs.Common.{◌-◌, ap, sym, arith}
use Rattle.std.proofs.lemmas.Nat.{one_shl}
use Rattle.mv_base.specs.Set.{full}
use Rattle.mv_base.proofs.packed_set.full_bits.Goals as goal

pub returns-in-64 : goal.returns-in-64
unfolding full
returns-in-64 c = ap full (sym c.in-64.is)

pub returns-in-0-to-63 : goal.returns-in-0-to-63
unfolding full
returns-in-0-to-63 c = ap (λ n. n - 1) (one_shl c.args.count 64 (omega arith))

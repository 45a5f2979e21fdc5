-- The room is doubled for each bit until it suffices.
use Rattle.std.proofs.Common.{◌*◌, refl, arith}
use Rattle.mv_encode.proofs.Binary.{doubled_all, doubled_more, doubled_none, few_bits}
use Rattle.mv_encode.proofs.codes.fewest_bits.Goals as goal

pub doubling-init : goal.doubling-init
doubling-init c = doubled_none c.args.values

pub doubling-preserved : goal.doubling-preserved
doubling-preserved c = doubled_more c.args.values c.doubling.bits c.doubling.room (c.doubling.room * 2) c.doubling-test.true refl c.doubling.invariant

pub overflow_add-bits : goal.overflow_add-bits
overflow_add-bits c = omega (arith, c.doubling.invariant.low, c.doubling-test.true, c.requires)

pub doubling-smaller : goal.doubling-smaller
doubling-smaller c = omega (arith, c.doubling.invariant.low, c.doubling-test.true)

pub returns : goal.returns
returns c =
    let fewest = doubled_all c.args.values c.doubling.bits c.doubling.room c.doubling-test.false c.doubling.invariant in
    record { fewest = fewest; few = few_bits c.args.values c.doubling.bits c.requires fewest }

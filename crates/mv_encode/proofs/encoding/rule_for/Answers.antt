-- The values are few, so that the bits are.
use Rattle.std.proofs.Common.{arith}
use Rattle.mv_net.proofs.Known.{values_few}
use Rattle.mv_encode.proofs.encoding.rule_for.Goals as goal

pub fewest_bits-bits-requires : goal.fewest_bits-bits-requires
fewest_bits-bits-requires c = let few = values_few c.args.net.now c.args.n.0 c.well_formed-2.ensures in omega (arith, few, c.values-values.ensures)

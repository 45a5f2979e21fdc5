-- The half that is left.
use Rattle.std.proofs.Common.{◌+◌, ◌-◌, ◌/◌, refl, arith}
use Rattle.mv_dag.proofs.Sought.{sought-up, sought-down}
use Rattle.mv_dag.proofs.readers.place_in.Goals as goal

pub search-preserved-then-nets-middle : goal.search-preserved-then-nets-middle
search-preserved-then-nets-middle c =
    sought-up c.args.nets.now c.args.net.0 c.search.low c.search.high (c.search.low + (c.search.high - c.search.low) / 2) _ _ c.requires c.search.invariant (omega arith) refl c.if-nets-middle.true

pub search-preserved : goal.search-preserved
search-preserved c =
    sought-down c.args.nets.now c.args.net.0 c.search.low c.search.high (c.search.low + (c.search.high - c.search.low) / 2) _ _ c.requires c.search.invariant (omega arith) (omega arith) refl c.if-nets-middle.false

-- Inputs, outputs of latches and outputs of tables are the driven nets.
use Rattle.mv_acyclic.proofs.Driven.{drivers_gathered}
use Rattle.mv_acyclic.proofs.drivers.add_drivers.Goals as goal

pub returns : goal.returns
returns c =
    rw (c.in_ok-add_tables.ensures, c.in_ok-add_latches.ensures, c.in_ok-add_names.ensures, c.as_slice.ensures, c.as_slice-2.ensures, c.as_slice-3.ensures)
    (drivers_gathered c.args.names.now c.args.model.now)

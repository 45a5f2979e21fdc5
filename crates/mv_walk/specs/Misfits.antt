-- What of an instance's bindings doesn't fit its model, said without where the instance stands.
use Rattle.std.specs.Prelude.{ℕ, Bool, not, ◌==◌, Option, List, ◌++◌}
use Rattle.std.specs.List.{flat_map}
use Rattle.std.specs.Option.{option_map}
use Rattle.mv_base.specs.Names.{among}
use Rattle.mv_fault.specs.Tells.{when}
use Rattle.mv_fault.specs.declared.flat.FlatFault.{FlatFault}
use Rattle.mv_fault.specs.declared.flat.FlatFault.TheVariants as fault
use Rattle.mv_design.specs.declared.design.Bind.{Bind}
use Rattle.mv_design.specs.declared.design.FileModel.{FileModel}
use Rattle.mv_design.specs.declared.design.Instance.{Instance}
use Rattle.mv_design.specs.Values.{count_of}
use Rattle.mv_tree.specs.Bound.{formals_of}
use Rattle.mv_tree.specs.Places.{is_bound}
use Rattle.mv_walk.specs.declared.command.PortFault.{PortFault}
use Rattle.mv_walk.specs.declared.command.PortFault.TheVariants.{NoFormal, PortValues, PortOpen}

-- what doesn't fit: what is bound is no formal; the two nets haven't as many values; the input
-- isn't bound
pub data Misfit : Type 0 where
  Unknown : (b : Bind) → Misfit
  Uneven : (b : Bind) → Misfit
  Unbound : (net : List ℕ) → Misfit

-- what of a binding doesn't fit
abbrev pub bind_misfits : FileModel → FileModel → Bind → List Misfit
bind_misfits round m b =
    when (not (among b.formal (formals_of m))) (Unknown b)
    ++ when (not (count_of m.decls b.formal == count_of round.decls b.actual)) (Uneven b)

-- what of an input doesn't fit
abbrev pub open_misfits : (List ℕ → Bool) → List ℕ → List Misfit
open_misfits bound net = when (not (bound net)) (Unbound net)

-- what of the bindings of an instance doesn't fit
abbrev pub misfits : FileModel → Instance → FileModel → List Misfit
misfits round p m = flat_map (bind_misfits round m) p.binds
    ++ flat_map (open_misfits (is_bound p.binds)) m.inputs

-- the fault of it, where the nets round the instance and its own have these paths
abbrev pub misfit_fault : List ℕ → List ℕ → Misfit → FlatFault
misfit_fault outer inner (Unknown b) = fault.NoFormal (inner ++ b.formal)
misfit_fault outer inner (Uneven b) = fault.PortValues (inner ++ b.formal) (outer ++ b.actual)
misfit_fault outer inner (Unbound net) = fault.PortOpen (inner ++ net)

-- what the code keeps of it
abbrev pub misfit_of : PortFault → Misfit
misfit_of (NoFormal b) = Unknown b.now
misfit_of (PortValues b) = Uneven b.now
misfit_of (PortOpen net) = Unbound net.now

-- the same of one that may be
abbrev pub misfit_in : Option PortFault → Option Misfit
misfit_in fault = option_map misfit_of fault

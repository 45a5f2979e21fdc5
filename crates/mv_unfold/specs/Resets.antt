-- The faults of reset tables as they are told of a place. For private functions.
use Rattle.std.specs.Prelude.{◌≡◌, ℕ, Bool, true, false, List, [], length, slice_index_or}
use Rattle.mv_fault.specs.declared.flat.FlatFault.{FlatFault}
use Rattle.mv_fault.specs.declared.flat.FlatFault.TheVariants.{NoLatch, ResetTwice}
use Rattle.mv_design.specs.declared.design.Design.{Design}
use Rattle.mv_tree.specs.Places.{Place}
use Rattle.mv_acyclic.specs.Sound.{model_reset_faults}
use Rattle.mv_unfold.specs.Placed.{model_at}

-- the fault of a reset table, with the name of its latch in the whole
abbrev pub at_home : Place → FlatFault → FlatFault
at_home p (NoLatch net) = NoLatch (p.home net)
at_home p (ResetTwice latch) = ResetTwice (p.home latch)
at_home p fault = fault

-- the reset tables of models that were looked at are right
pub record AreLooked (d : Design) (looked : List Bool) : Type 0 where
  pub long : length looked ≡ length d.models
  pub right : (k : ℕ) → slice_index_or looked k false ≡ true
      → model_reset_faults (model_at d k) ≡ []

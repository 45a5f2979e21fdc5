-- The network of a design.
use Rattle.std.specs.Prelude.{◌⊎◌, ◌+◌, ◌≤◌, Option, IfSome, List, length, All}
use Rattle.mv_base.specs.Meaning.{SameMeaning}
use Rattle.mv_base.specs.declared.limits.TheConstants.{MAX_FLAT_NAME_BYTES}
use Rattle.mv_design.specs.declared.design.Design.{Design}
use Rattle.mv_design.specs.declared.design.FileModel.{FileModel}
use Rattle.mv_fault.specs.declared.flat.FlatFault.{FlatFault}
use Rattle.mv_net.specs.declared.parts.FlatNet.{FlatNet}
use Rattle.mv_net.specs.declared.parts.NetParts.{NetParts}
use Rattle.mv_net.specs.Allowed.{of_net}
use Rattle.mv_design.specs.Nets.{drivers}
use Rattle.mv_unfold.specs.Sound.{IsSound, IsFault, IsWithinDesignLimits, model_of, of_sound}
use Rattle.mv_resets.specs.Resets.{with_reset_nets}
use Rattle.mv_flat.specs.Built.{IsBuilt}
use Rattle.mv_flat.specs.Size.{FitsLimits, IsPastLimit}

-- no net has a name that is too long; that of a reset net has the full stop besides
abbrev pub AreShort : List (Option FlatNet) → Type 0
AreShort nets =
    All (λ (o : Option FlatNet). IfSome o
    (λ (f : FlatNet). length f.name ≤ MAX_FLAT_NAME_BYTES + 1)) nets

-- the network of a model passes no limit: a net for each reset value belongs to it
abbrev pub HasSmallNetwork : FileModel → Type 0
HasSmallNetwork m = FitsLimits (length (drivers m)) (with_reset_nets m)

-- a sound design whose nets and whose network are within the limits, and this network, which means
-- the same; no name of it is too long
pub record IsFlat (net : NetParts) (d : Design) : Type 0 where
  pub sound : IsSound d
  pub limits : IsWithinDesignLimits d sound.tree
  pub fits : HasSmallNetwork (model_of d sound)
  pub built : IsBuilt (with_reset_nets (model_of d sound)) net
  pub means : SameMeaning (of_net net) (of_sound d sound)
  pub short : AreShort net.nets

-- a sound design whose nets are within the limits, but whose network passes one, and this is the
-- first limit that it does
pub record HasLargeNetwork (d : Design) (f : FlatFault) : Type 0 where
  pub sound : IsSound d
  pub limits : IsWithinDesignLimits d sound.tree
  pub past : IsPastLimit (length (drivers (model_of d sound)))
      (with_reset_nets (model_of d sound)) f

-- why a design has no network: for the fault of its instances, nets and reset tables, or for the
-- limit that its network passes
abbrev pub IsRefusedDesign : Design → FlatFault → Type 0
IsRefusedDesign d f = IsFault d f ⊎ HasLargeNetwork d f

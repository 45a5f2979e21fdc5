-- Lines of a BLIF file and the network that they say, or why they say none.
use Rattle.std.specs.Prelude.{◌≡◌, List}
use Rattle.mv_lex.specs.declared.lines.LexLine.{LexLine}
use Rattle.mv_fault.specs.declared.flat.FlatFault.{FlatFault}
use Rattle.mv_fault.specs.declared.flat.FlatFault.TheVariants.{Memory as NoFlatMemory}
use Rattle.mv_blif_line.specs.declared.fault.BlifFault.{BlifFault}
use Rattle.mv_blif_line.specs.declared.fault.BlifFault.TheVariants.{Memory as NoBlifMemory}
use Rattle.mv_blif.specs.declared.design.BlifDesign.{BlifDesign}
use Rattle.mv_blif.specs.Grammar.{IsBlif, AreWithinLimits, FirstFault}
use Rattle.mv_unfold.specs.Sound.{IsSound, IsWithinDesignLimits, model_of}
use Rattle.mv_flat.specs.Flat.{HasSmallNetwork, IsFlat, IsRefusedDesign}
use Rattle.mv_blif_read.specs.declared.network.BlifNetFault.{BlifNetFault}
use Rattle.mv_blif_read.specs.declared.network.BlifNetFault.TheVariants.{Parse, Flat, Memory}
use Rattle.mv_blif_read.specs.declared.network.FileNetwork.{FileNetwork}

-- the network of the design that the lines say, and what they say of its latches
pub record IsBlifNetOf (lines : List LexLine) (b : FileNetwork) : Type 0 where
  pub design : BlifDesign
  pub is : IsBlif lines design
  pub within : AreWithinLimits lines
  pub flat : IsFlat b.net design.design
  pub said : b.latches ≡ design.latches

-- lines within the limits that say a sound design, whose nets and network are within theirs
pub record SaySoundDesign (lines : List LexLine) : Type 0 where
  pub design : BlifDesign
  pub is : IsBlif lines design
  pub within : AreWithinLimits lines
  pub sound : IsSound design.design
  pub limits : IsWithinDesignLimits design.design sound.tree
  pub fits : HasSmallNetwork (model_of design.design sound)

-- lines that say a design which isn't sound, or whose nets or network pass a limit, and the fault
-- that is told of it
pub record IsUnsound (lines : List LexLine) (f : FlatFault) : Type 0 where
  pub design : BlifDesign
  pub is : IsBlif lines design
  pub within : AreWithinLimits lines
  pub fault : IsRefusedDesign design.design f
  pub cause : f ≡ NoFlatMemory → ⊥

-- why lines are refused: their first fault, or the fault of their design; for want of memory any
-- may be
abbrev pub IsFaultOf : List LexLine → BlifNetFault → Type 0
IsFaultOf lines (Parse f) = FirstFault lines f
IsFaultOf lines (Flat f) = IsUnsound lines f
IsFaultOf lines Memory = Unit {0}

-- ---- what private functions alone cite

-- how a fault of the lines is told: want of memory is told alike wherever it comes
abbrev pub parse_refused : BlifFault → BlifNetFault
parse_refused NoBlifMemory = Memory
parse_refused f = Parse f

-- how a fault of the design is told: want of memory is told alike wherever it comes
abbrev pub flat_refused : FlatFault → BlifNetFault
flat_refused NoFlatMemory = Memory
flat_refused f = Flat f

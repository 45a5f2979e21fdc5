-- Lines and the network that they say, or why they say none.
use Rattle.std.specs.Prelude.{◌≡◌, List}
use Rattle.mv_lex.specs.declared.lines.LexLine.{LexLine}
use Rattle.mv_design.specs.declared.design.Design.{Design}
use Rattle.mv_fault.specs.declared.fault.ParseFault.{ParseFault}
use Rattle.mv_fault.specs.declared.fault.ParseFault.TheVariants.{Memory as NoParseMemory}
use Rattle.mv_parse.specs.Grammar.{IsDesign, AreWithinLimits, FirstFault}
use Rattle.mv_net.specs.declared.parts.NetParts.{NetParts}
use Rattle.mv_fault.specs.declared.flat.FlatFault.{FlatFault}
use Rattle.mv_fault.specs.declared.flat.FlatFault.TheVariants.{Memory as NoFlatMemory}
use Rattle.mv_unfold.specs.Sound.{IsSound, IsWithinDesignLimits, model_of}
use Rattle.mv_flat.specs.Flat.{HasSmallNetwork, IsFlat, IsRefusedDesign}
use Rattle.mv_read.specs.declared.network.NetFault.{NetFault}
use Rattle.mv_read.specs.declared.network.NetFault.TheVariants.{Parse, Flat, Memory}

-- the network of the design that the lines say
pub record IsNetOf (lines : List LexLine) (net : NetParts) : Type 0 where
  pub design : Design
  pub is : IsDesign lines design
  pub within : AreWithinLimits lines
  pub flat : IsFlat net design

-- lines within the limits that say a sound design, whose instances, nets and network are within
-- theirs
pub record SaySoundDesign (lines : List LexLine) : Type 0 where
  pub design : Design
  pub is : IsDesign lines design
  pub within : AreWithinLimits lines
  pub sound : IsSound design
  pub limits : IsWithinDesignLimits design sound.tree
  pub fits : HasSmallNetwork (model_of design sound)

-- lines that say a design which isn't sound, or whose instances, nets or network pass a limit, and
-- the fault that is told of it
pub record IsUnsound (lines : List LexLine) (f : FlatFault) : Type 0 where
  pub design : Design
  pub is : IsDesign lines design
  pub within : AreWithinLimits lines
  pub fault : IsRefusedDesign design f
  pub cause : f ≡ NoFlatMemory → ⊥

-- why lines are refused: their first fault, or the fault of their design; for want of memory any
-- may be
abbrev pub IsFaultOf : List LexLine → NetFault → Type 0
IsFaultOf lines (Parse f) = FirstFault lines f
IsFaultOf lines (Flat f) = IsUnsound lines f
IsFaultOf lines Memory = Unit {0}

-- ---- what private functions alone cite

-- how a fault of the lines is told: want of memory is told alike wherever it comes
abbrev pub parse_refused : ParseFault → NetFault
parse_refused NoParseMemory = Memory
parse_refused f = Parse f

-- how a fault of the design is told: want of memory is told alike wherever it comes
abbrev pub flat_refused : FlatFault → NetFault
flat_refused NoFlatMemory = Memory
flat_refused f = Flat f

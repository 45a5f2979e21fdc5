-- Formats whose files are lines.
use Rattle.std.specs.Prelude.{◌≡◌, ◌⊎◌, ℕ, Some, None, List}
use Rattle.mv_base.specs.declared.limits.TheConstants.{MAX_NETWORK_BYTES}
use Rattle.mv_blif_read.specs.declared.network.FileNetwork.{FileNetwork}
use Rattle.mv_design.specs.declared.design.Design.{Design}
use Rattle.mv_lex.specs.declared.lines.LexLine.{LexLine}
use Rattle.mv_lex.specs.Lines.{lines_of, lex_fault}
use Rattle.mv_net.specs.Formed.{WellFormed}
use Rattle.mv_unfold.specs.Sound.{IsSound}
use Rattle.mv_format.specs.declared.fault.FileFault.{FileFault}
use Rattle.mv_format.specs.declared.fault.FileFault.TheVariants.{Lex}
use Rattle.mv_format.specs.Faults.{net_line}
use Rattle.mv_format.specs.Formats.{Format}

-- what a format makes of lines: which are accepted, the network that they say, and for which faults
-- others are refused; and what it is besides
pub record LineFormat : Type 1 where
  pub Accepts : List LexLine → Type 0
  pub IsNet : List LexLine → FileNetwork → Type 0
  pub Refuses : List LexLine → FileFault → Type 0
  pub Reads : List ℕ → Design → Type 0
  pub sound : (bytes : List ℕ) (d : Design) → Reads bytes d → IsSound d
  pub text : FileNetwork → List ℕ
  pub Besides : List ℕ → List ℕ → Type 0

-- bytes that are accepted: they have no fault, and their lines are accepted
pub record IsAccepted (lines : LineFormat) (bytes : List ℕ) : Type 0 where
  pub lexed : lex_fault MAX_NETWORK_BYTES bytes ≡ None
  pub form : lines.Accepts (lines_of bytes)

-- bytes without a fault, whose lines say this network, which is well formed
pub record IsNetOfText (lines : LineFormat) (text : List ℕ) (f : FileNetwork) : Type 0 where
  pub lexed : lex_fault MAX_NETWORK_BYTES text ≡ None
  pub net_of : lines.IsNet (lines_of text) f
  pub formed : WellFormed f.net

-- the fault is one of the bytes
abbrev pub HasByteFault : List ℕ → FileFault → Type 0
HasByteFault bytes (Lex f) = lex_fault MAX_NETWORK_BYTES bytes ≡ Some f
HasByteFault bytes f = ⊥

-- the bytes have none, but it is one of their lines
pub record HasLineFault (lines : LineFormat) (bytes : List ℕ) (f : FileFault) : Type 0 where
  pub lexed : lex_fault MAX_NETWORK_BYTES bytes ≡ None
  pub refused : lines.Refuses (lines_of bytes) f

-- the bytes are refused for a fault with this line
pub record TellsFault (lines : LineFormat) (bytes line : List ℕ) : Type 0 where
  pub fault : FileFault
  pub refuses : HasByteFault bytes fault ⊎ HasLineFault lines bytes fault
  pub is : line ≡ net_line fault

-- the format
abbrev pub text_format : LineFormat → Format
text_format lines = record {
  Accepts = IsAccepted lines;
  Faults = TellsFault lines;
  IsNet = IsNetOfText lines;
  Reads = lines.Reads;
  sound = lines.sound;
  text = lines.text;
  Besides = lines.Besides;
}

-- BLIF, as a format.
use Rattle.std.specs.Prelude.{◌≡◌, ℕ, List}
use Rattle.mv_base.specs.Meaning.{SameMeaning}
use Rattle.mv_blif.specs.declared.design.BlifDesign.{BlifDesign}
use Rattle.mv_blif.specs.Grammar.{FirstFault}
use Rattle.mv_blif_back.specs.Back.{ReadsAs}
use Rattle.mv_blif_read.specs.Reads.{IsBlifNetOf, IsUnsound, SaySoundDesign}
use Rattle.mv_blif_text.specs.BlifText.{blif_text}
use Rattle.mv_design.specs.declared.design.Design.{Design}
use Rattle.mv_latch.specs.declared.latch.BlifLatch.{BlifLatch}
use Rattle.mv_lex.specs.declared.lines.LexLine.{LexLine}
use Rattle.mv_unfold.specs.Sound.{of_sound}
use Rattle.mv_format.specs.declared.fault.FileFault.{FileFault}
use Rattle.mv_format.specs.declared.fault.FileFault.TheVariants.{Lex, Parse, Blif, Flat}
use Rattle.mv_format.specs.Formats.{Format}
use Rattle.mv_format.specs.Texts.{LineFormat, text_format}

-- the lines are refused for this fault: their first one, or, where they have none, that of their
-- design, which isn't sound, or whose nets or network pass a limit
abbrev pub RefusesLines : List LexLine → FileFault → Type 0
RefusesLines lines (Lex f) = ⊥
RefusesLines lines (Parse f) = ⊥
RefusesLines lines (Blif f) = FirstFault lines f
RefusesLines lines (Flat f) = IsUnsound lines f

-- the bytes read as this design, whatever they say of its latches
pub record ReadAs (bytes : List ℕ) (d : Design) : Type 0 where
  pub latches : List BlifLatch
  pub reads : ReadsAs bytes (record { design = d; latches = latches })

-- both say the same of each latch besides its nets: when it takes its input, what controls it, and
-- how it begins; and they mean the same, since each allows one choice under each value of its
-- inputs and latches
pub record SayAlike (read written : List ℕ) : Type 0 where
  pub old : BlifDesign
  pub reads : ReadsAs read old
  pub new : BlifDesign
  pub back : ReadsAs written new
  pub latches : new.latches ≡ old.latches
  pub means
      : SameMeaning (of_sound new.design back.sound) (of_sound old.design reads.sound)

-- what it makes of lines, and is besides
abbrev pub blif_lines : LineFormat
blif_lines = record {
  Accepts = SaySoundDesign;
  IsNet = IsBlifNetOf;
  Refuses = RefusesLines;
  Reads = ReadAs;
  sound = λ bytes d reads. reads.reads.sound;
  text = λ f. blif_text f.net f.latches;
  Besides = SayAlike;
}

-- BLIF
abbrev pub blif : Format
blif = text_format blif_lines

-- BLIF-MV, as a format.
use Rattle.std.specs.Prelude.{◌≡◌, List, []}
use Rattle.mv_blif_read.specs.declared.network.FileNetwork.{FileNetwork}
use Rattle.mv_lex.specs.declared.lines.LexLine.{LexLine}
use Rattle.mv_parse.specs.Grammar.{FirstFault}
use Rattle.mv_read.specs.Reads.{IsNetOf, IsUnsound, SaySoundDesign}
use Rattle.mv_text.specs.Text.{text_of}
use Rattle.mv_text_back.specs.Back.{ReadsAs}
use Rattle.mv_format.specs.declared.fault.FileFault.{FileFault}
use Rattle.mv_format.specs.declared.fault.FileFault.TheVariants.{Lex, Parse, Blif, Flat}
use Rattle.mv_format.specs.Formats.{Format}
use Rattle.mv_format.specs.Texts.{LineFormat, text_format}

-- the lines say the design of this network, and nothing of its latches besides
abbrev pub SayNet : List LexLine → FileNetwork → Type 0
SayNet lines f = IsNetOf lines f.net × (f.latches ≡ [])

-- the lines are refused for this fault: their first one, or, where they have none, that of their
-- design, which isn't sound, or whose nets or network pass a limit
abbrev pub RefusesLines : List LexLine → FileFault → Type 0
RefusesLines lines (Lex f) = ⊥
RefusesLines lines (Parse f) = FirstFault lines f
RefusesLines lines (Blif f) = ⊥
RefusesLines lines (Flat f) = IsUnsound lines f

-- what it makes of lines, and is besides
abbrev pub blif_mv_lines : LineFormat
blif_mv_lines = record {
  Accepts = SaySoundDesign;
  IsNet = SayNet;
  Refuses = RefusesLines;
  Reads = ReadsAs;
  sound = λ bytes d reads. reads.sound;
  text = λ f. text_of f.net;
  Besides = λ read written. Unit {0};
}

-- BLIF-MV
abbrev pub blif_mv : Format
blif_mv = text_format blif_mv_lines

-- The format that a task is told.
use Rattle.std.specs.Prelude.{◌≡◌, length}
use Rattle.mv_blif_read.specs.declared.network.FileNetwork.{FileNetwork}
use Rattle.mv_format.specs.declared.format.FileFormat.{FileFormat}
use Rattle.mv_format.specs.declared.format.FileFormat.TheVariants.{BlifMv, Blif}
use Rattle.mv_format.specs.Formats.{Format}
use Rattle.mv_format.specs.Texts.{LineFormat, text_format}
use Rattle.mv_format.specs.BlifMv.{blif_mv_lines}
use Rattle.mv_format.specs.Blif.{blif_lines}

-- what each makes of lines
abbrev pub lines_of_format : FileFormat → LineFormat
lines_of_format BlifMv = blif_mv_lines
lines_of_format Blif = blif_lines

-- each is one
abbrev pub format_of : FileFormat → Format
format_of format = text_format (lines_of_format format)

-- what is said of latches suffices for a text: in BLIF there is something for each latch
abbrev pub HasSettings : FileFormat → FileNetwork → Type 0
HasSettings BlifMv f = Unit {0}
HasSettings Blif f = length f.latches ≡ length f.net.latches

-- Each format keeps what it has to.
use Rattle.std.proofs.Common.{Bool, List}
use Rattle.mv_blif_read.specs.declared.network.FileNetwork.{FileNetwork}
use Rattle.mv_entry.specs.declared.rule.Rule.{Rule}
use Rattle.mv_net.specs.declared.parts.NetParts.{NetParts}
use Rattle.mv_rules.specs.Replaying.{Replays}
use Rattle.mv_format.specs.Chosen.{format_of}
use Rattle.mv_format.specs.Formats.{IsLawful, LeavesPlace}
use Rattle.mv_format.specs.declared.format.FileFormat.{FileFormat}
use Rattle.mv_format.specs.declared.format.FileFormat.TheVariants.{BlifMv, Blif}
use Rattle.mv_format.proofs.BlifReplacing.{blif_replaced}
use Rattle.mv_format.proofs.Networks.{text_accepted, text_only}
use Rattle.mv_format.proofs.Replacing.{replaced}

left_replaces : (format : FileFormat) (free : Bool) (rules : List Rule) (first : FileNetwork) (net : NetParts) → Replays free rules first.net net → LeavesPlace (format_of format) free rules first net
left_replaces BlifMv = replaced
left_replaces Blif = blif_replaced

pub lawful : (format : FileFormat) → IsLawful (format_of format)
lawful format = record { formed = λ text f said. said.formed; accepted = text_accepted format; only = text_only format; replaces = left_replaces format }

-- What is said of latches suffices for each network with the same latches.
use Rattle.std.proofs.Common.{◌≡◌, ◌∙◌, List, length, sym, ap}
use Rattle.mv_blif_read.specs.declared.network.FileNetwork.{FileNetwork}
use Rattle.mv_net.specs.declared.parts.FlatLatch.{FlatLatch}
use Rattle.mv_net.specs.declared.parts.NetParts.{NetParts}
use Rattle.mv_format.specs.Chosen.{HasSettings}
use Rattle.mv_format.specs.Formats.{left_of}
use Rattle.mv_format.specs.declared.format.FileFormat.{FileFormat}
use Rattle.mv_format.specs.declared.format.FileFormat.TheVariants.{BlifMv, Blif}

pub settings_left : (format : FileFormat) (first : FileNetwork) (net : NetParts) → net.latches ≡ first.net.latches → HasSettings format first → HasSettings format (left_of first net)
settings_left BlifMv first net same settings = tt
settings_left Blif first net same settings = settings ∙ sym (ap (λ (ls : List FlatLatch). length ls) same)

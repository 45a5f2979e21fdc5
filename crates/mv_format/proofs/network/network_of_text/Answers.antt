-- What the text's lines say, whatever the files are.
use Rattle.mv_format.proofs.Networks.{text_gives}
use Rattle.mv_format.proofs.network.network_of_text.Goals as goal

pub returns-in-Ok-blif_mv_network-clause-gives : goal.returns-in-Ok-blif_mv_network-clause-gives
returns-in-Ok-blif_mv_network-clause-gives c =
    let file = c.in-Ok-blif_mv_network.ensures in
    λ files. text_gives _ _ c.in-Ok.ensures.lines _ files c.in-Ok.ensures.clean file.net file.formed

-- The text of a network, as it is written.
use Rattle.std.proofs.Common.{◌≡◌, List, ◌++◌, codes}
use Rattle.std.specs.List.{flat_map}
use Rattle.std.proofs.lemmas.List.Concat.{flat_map-append}
use Rattle.mv_lex.specs.Text.{line_text}
use Rattle.mv_latch.specs.declared.latch.BlifLatch.{BlifLatch}
use Rattle.mv_net.specs.declared.parts.NetParts.{NetParts}
use Rattle.mv_write.specs.Opened.{unopened}
use Rattle.mv_write.proofs.Parts.{opened-lines}
use Rattle.mv_blif_text.specs.BlifText.{latches_words, net_words, inner_lines, blif_lines, blif_text}

pub inner-text : (net : NetParts) (bs : List BlifLatch)
    → flat_map line_text (inner_lines net bs) ≡ flat_map line_text (latches_words net.nets net.latches bs) ++ flat_map line_text (flat_map (net_words net.nets) net.nets)
inner-text net bs = flat_map-append line_text (latches_words net.nets net.latches bs) (flat_map (net_words net.nets) net.nets)

pub opened-text : (net : NetParts) (bs : List BlifLatch) → blif_text net bs ≡ codes ".model " ++ unopened net (inner_lines net bs)
unfolding blif_text blif_lines
opened-text net bs = opened-lines net (inner_lines net bs)

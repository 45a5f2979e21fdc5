-- The first bytes of the text.
use Rattle.std.proofs.Common.{◌≡◌, List, take, codes, refl}
use Rattle.mv_lex.specs.Text.{line_text, spaced}
use Rattle.mv_latch.specs.declared.latch.BlifLatch.{BlifLatch}
use Rattle.mv_net.specs.declared.parts.NetParts.{NetParts}
use Rattle.mv_blif_text.specs.BlifText.{blif_text, blif_lines}

pub text-opens : (net : NetParts) (bs : List BlifLatch) → take 6 (blif_text net bs) ≡ codes ".model"
unfolding blif_text blif_lines line_text spaced
text-opens net bs = refl

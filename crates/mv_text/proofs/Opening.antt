-- The first bytes of a network's text.
use Rattle.std.proofs.Common.{◌≡◌, take, codes, refl}
use Rattle.mv_lex.specs.Text.{line_text, spaced}
use Rattle.mv_net.specs.declared.parts.NetParts.{NetParts}
use Rattle.mv_text.specs.Text.{text_of, net_lines}

pub text-opens : (net : NetParts) → take 6 (text_of net) ≡ codes ".model"
unfolding text_of net_lines line_text spaced
text-opens net = refl

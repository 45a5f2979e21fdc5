-- The tokens that begin before the place were added.
use Rattle.std.proofs.Common.{◌≡◌}
use Rattle.mv_script.proofs.Texts.{tokens_before}
use Rattle.mv_script.proofs.token.tokens_of.Given as goal

abbrev pub invariant-loop-place : goal.invariant-loop-place
invariant-loop-place l = l.tokens ≡ tokens_before l.said l.place

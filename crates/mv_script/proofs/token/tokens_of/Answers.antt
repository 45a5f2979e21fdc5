-- One place more.
use Rattle.std.proofs.Common.{◌∙◌, sym, ap, ◌++◌}
use Rattle.mv_script.specs.Texts.{token_at}
use Rattle.mv_script.proofs.Texts.{tokens_so_far}
use Rattle.mv_script.proofs.token.tokens_of.Goals as goal

pub loop-place-preserved : goal.loop-place-preserved
loop-place-preserved c =
    c.in_ok-put_token.ensures ∙ ap (λ t. t ++ token_at c.args.said.now c.loop-place.place) c.loop-place.invariant ∙ sym (tokens_so_far c.args.said.now c.loop-place.place)

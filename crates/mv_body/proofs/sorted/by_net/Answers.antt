use Rattle.std.proofs.Common.{rules}
use Rattle.std.proofs.lemmas.List.Sorted.{IsNonDecreasingBy-from_sort_by_key}
use Rattle.mv_cover.specs.Literal.{Lit}
use Rattle.mv_body.proofs.sorted.by_net.Goals as goal

pub returns : goal.returns
returns c = record {
  moved = c.sort_unstable_by_key.ensures.permutation;
  up = IsNonDecreasingBy-from_sort_by_key (λ (l : Lit). l.net.0) _ c.sort_unstable_by_key.ensures.sorted (λ a r q k. search rules);
}

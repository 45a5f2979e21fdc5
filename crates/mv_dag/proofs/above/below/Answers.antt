-- The search down from the readers of the net finds those of which it is above, and no others.
use Rattle.std.proofs.Common.{◌≡◌, ◌∙◌, ℕ, List, length, sym, ap, arith}
use Rattle.mv_base.specs.declared.number.NetId.{NetId}
use Rattle.mv_graph.specs.Nets.{has_id, row, IsAscending}
use Rattle.mv_graph.proofs.Nets.{ascending_kept}
use Rattle.mv_dag.proofs.Reaching.{all_below, reader_below}
use Rattle.mv_dag.proofs.Walks.{below_told}
use Rattle.mv_dag.proofs.above.below.Goals as goal

pub search-requires-clause-starts : goal.search-requires-clause-starts
search-requires-clause-starts c =
    let fanins = c.args.fanins.now in
    let same : (n : ℕ) → has_id c.as_slice.result.now n ≡ has_id (row fanins n) c.args.net.0 = λ n. ap (λ (ns : List NetId). has_id ns n) c.as_slice.ensures.value ∙ c.in_ok-starts.ensures n in
    all_below c.as_slice.result.now (length fanins) (λ n h. reader_below fanins n c.args.net.0 (sym (same n) ∙ h))

pub returns-clause-ascending : goal.returns-clause-ascending
returns-clause-ascending c =
    let kept : IsAscending (has_id c.in_ok-nets.nets.items) c.of.result = rw c.of.ensures (ascending_kept _ _ _ c.sort_unstable.ensures.permutation c.sort_unstable.ensures.sorted c.dedup.ensures.filtered) in
    kept.ascending

pub returns-clause-members : goal.returns-clause-members
returns-clause-members c =
    let fanins = c.args.fanins.now in
    let kept : IsAscending (has_id c.in_ok-nets.nets.items) c.of.result = rw c.of.ensures (ascending_kept _ _ _ c.sort_unstable.ensures.permutation c.sort_unstable.ensures.sorted c.dedup.ensures.filtered) in
    let same : (n : ℕ) → has_id c.as_slice.result.now n ≡ has_id (row fanins n) c.args.net.0 = λ n. ap (λ (ns : List NetId). has_id ns n) c.as_slice.ensures.value ∙ c.in_ok-starts.ensures n in
    let nets : c.in_ok-nets.nets.items ≡ c.in_ok-found.found.keys = c.in_ok-nets.ensures.items ∙ c.as_slice-2.ensures.keys in
    below_told fanins c.as_slice.result.now c.args.net.0 c.new-least.result c.in_ok-found.found.keys (omega (arith, c.new-least.ensures)) same c.in_ok-found.ensures.searched c.of.result
    (λ n. kept.members n ∙ ap (λ (ns : List NetId). has_id ns n) nets)

-- A sort by label puts each net behind those of the others that it reads.
use Rattle.std.proofs.Common.{rules}
use Rattle.std.proofs.lemmas.List.Sorted.{IsNonDecreasingBy-from_sort_by_key}
use Rattle.mv_base.specs.declared.number.NetId.{NetId}
use Rattle.mv_dag.specs.Ordered.{at}
use Rattle.mv_dag.proofs.Sorts.{sorted_order}
use Rattle.mv_dag.proofs.orders.order_of.Goals as goal

pub returns : goal.returns
returns c =
    sorted_order c.args.fanins.now c.args.labels.now c.args.nets.now _ c.requires.ordered c.requires.once
    (rw c.in_ok-order.ensures.items at c.sort_unstable_by_key.ensures.permutation)
    (IsNonDecreasingBy-from_sort_by_key (λ (n : NetId). at c.args.labels.now n.0) _ c.sort_unstable_by_key.ensures.sorted (λ a r q k. search rules))

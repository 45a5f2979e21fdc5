use Rattle.std.proofs.Common.{rules}
use Rattle.std.proofs.lemmas.List.Sorted.{IsNonDecreasingBy-from_sort_by_key}
use Rattle.mv_rows.specs.declared.column.Placed.{Placed}
use Rattle.mv_rows.proofs.Orders.{IsColumnOrder_from_sort}
use Rattle.mv_rows.proofs.column.ordered.Goals as goal

pub returns : goal.returns
returns c =
    IsColumnOrder_from_sort c.args.columns.now _ _ c.in_ok-order.ensures c.sort_unstable_by_key.ensures.permutation
    (IsNonDecreasingBy-from_sort_by_key (λ (x : Placed). x.column.net.0) _ c.sort_unstable_by_key.ensures.sorted (λ a r q k. search rules))

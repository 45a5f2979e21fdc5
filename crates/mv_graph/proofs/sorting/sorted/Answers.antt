-- Where each net has a rank, the order has every net behind its columns.
use Rattle.std.proofs.Common.{◌≡◌, true, sym, ◌∙◌}
use Rattle.std.specs.Prelude.{nat_lt}
use Rattle.std.specs.List.{list_all}
use Rattle.mv_graph.proofs.Finished.{sorted_at_end}
use Rattle.mv_graph.proofs.sorting.sorted.Goals as goal

pub returns-then-are_ranked-clause-order : goal.returns-then-are_ranked-clause-order
returns-then-are_ranked-clause-order c =
    let all : list_all (λ r. nat_lt 0 r) c.settle_each.new.self.ranks.items ≡ true = rw (← c.as_slice.ensures.value) (sym c.are_ranked.ensures ∙ c.if-are_ranked.true) in
    rw c.of.ensures (sorted_at_end c.args.columns.now c.settle_each.new.self _ c.in_ok-settle_each.ensures all)

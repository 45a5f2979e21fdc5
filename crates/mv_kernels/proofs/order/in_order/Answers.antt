-- The sort orders the cubes, and of equal neighbours one stays.
use Rattle.std.proofs.Common.{rules}
use Rattle.std.specs.Ordering.{is_lt}
use Rattle.std.specs.List.Sorted.{IsSorted}
use Rattle.std.proofs.lemmas.List.Sorted.{ranks_by, answers_always}
use Rattle.mv_kernels.specs.Order.{cube_cmp}
use Rattle.mv_kernels.proofs.Orders.{cube_total, ascend-dedup, same-dedup}
use Rattle.mv_kernels.proofs.order.in_order.Goals as goal

pub returns-clause-ascending : goal.returns-clause-ascending
returns-clause-ascending c =
    let up : IsSorted cube_cmp c.sort_unstable_by.new.self.items = c.sort_unstable_by.ensures.sorted (λ x y. is_lt (cube_cmp x y)) (ranks_by cube_total (λ x. x)) (answers_always _ _ _ (λ f a r g h. search rules)) in
    ascend-dedup c.sort_unstable_by.new.self.items c.dedup.new.self.items up c.dedup.ensures.filtered

pub returns-clause-same : goal.returns-clause-same
returns-clause-same c =
    same-dedup c.args.cubes.items c.sort_unstable_by.new.self.items c.dedup.new.self.items c.sort_unstable_by.ensures.permutation c.dedup.ensures.filtered

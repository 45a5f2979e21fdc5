use Rattle.std.proofs.Common.{◌∙◌, ◌&&◌, ◌<◌, nat_eq, length, ap, arith}
use Rattle.std.proofs.lemmas.List.{get_or_read}
use Rattle.mv_solve.specs.declared.asked.Asked.TheVariants.{Anything}
use Rattle.mv_graph.specs.Nets.{has_id}
use Rattle.mv_solve.specs.Asked.{takes}
use Rattle.mv_solve.proofs.Knowing.{asked_more}
use Rattle.mv_solve.proofs.solver.Solver.give.Goals as goal

pub returns-clause-asked : goal.returns-clause-asked
returns-clause-asked c =
    let asked = c.self.inside.asked.items in
    let n = c.args.net.0 in
    let low = c.self.invariant.room.each n (ap (λ s. has_id s.order n) c.self.view_is ∙ c.requires) in
    let lt : n < length asked = omega (arith, low, c.self.invariant.long) in
    let is = get_or_read asked n c.index.result.now lt c.index.ensures Anything in
    rw (← c.self.view_is) (asked_more c.self.inside.order.items asked n c.args.value.0 c.and-asked.result lt (ap (λ s. has_id s.order n) c.self.view_is ∙ c.requires) (λ u. c.and-asked.ensures u ∙ ap (λ a. takes a u && nat_eq u c.args.value.0) is))

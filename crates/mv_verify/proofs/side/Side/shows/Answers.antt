use Rattle.std.proofs.Common.{◌≡◌, ◌∙◌, ◌<◌, ℕ, true, List, length, sym, subst}
use Rattle.mv_base.specs.declared.number.NetId.{NetId}
use Rattle.mv_graph.specs.Nets.{has_id}
use Rattle.mv_graph.specs.Sorting.{net_at}
use Rattle.mv_verify.proofs.Asking.{can_ask}
use Rattle.mv_verify.proofs.side.Side.shows.Goals as goal

pub ask-requires-clause-held : goal.ask-requires-clause-held
ask-requires-clause-held c =
    let net = c.self.inside.net.now in
    let order = c.self.inside.solver.order in
    let P : List NetId → Type 0 = λ l. (k : ℕ) → k < length l → has_id order (net_at l k) ≡ true in
    subst P (sym (c.as_slice.ensures.value ∙ c.self.invariant.listed)) (λ k less. can_ask net order k c.well_formed-2.ensures c.self.invariant.order less)

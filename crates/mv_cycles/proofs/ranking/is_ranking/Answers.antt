-- The net whose columns were tested shows that the ranks rise.
use Rattle.std.proofs.Common.{◌∙◌, List, sym, subst, arith}
use Rattle.std.proofs.lemmas.Bool.{false≢true}
use Rattle.mv_base.specs.declared.number.NetId.{NetId}
use Rattle.mv_graph.proofs.Waiting.{columns_read}
use Rattle.mv_cycles.specs.Ranks.{AreNoHigher}
use Rattle.mv_cycles.proofs.ranking.is_ranking.Goals as goal

pub returns-then-not-are_no_higher : goal.returns-then-not-are_no_higher
returns-then-not-are_no_higher c =
    let i = c.loop-number.number in
    let read = columns_read c.args.columns.now i _ _ (omega arith) c.index-columns-number.is c.as_slice.ensures in
    let P : List NetId → Type 0 = λ nets. AreNoHigher c.args.ranks.now nets i in
    (λ y. absurd (false≢true y), λ r. sym c.if-not-are_no_higher.true ∙ c.are_no_higher.ensures.1 (subst P (sym read) (r.never_rises i)))

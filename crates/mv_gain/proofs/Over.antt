-- Where more literals come than a net and its readers have, the net doesn't save.
use Rattle.std.proofs.Common.{◌≡◌, ◌∙◌, ℕ, ◌≤◌, nat_cmp, Option, Some, None, List, IfSome, sym, ap, subst, arith}
use Rattle.std.specs.Prelude.{unwrap_or}
use Rattle.std.specs.BTreeMap.{get}
use Rattle.std.specs.List.{sum_by}
use Rattle.mv_base.specs.declared.number.NetId.{NetId}
use Rattle.mv_composite.specs.declared.inner.Inner.{Inner}
use Rattle.mv_graph.specs.Nets.{IsAscending}
use Rattle.mv_net.specs.declared.parts.FlatNet.{FlatNet}
use Rattle.mv_net.specs.declared.parts.NetParts.{NetParts}
use Rattle.mv_net.specs.Behind.{literals_at}
use Rattle.mv_net.specs.Formed.{WellFormed}
use Rattle.mv_net.specs.Nets.{slot, table_in, table_literals, reads_in}
use Rattle.mv_plans.specs.Composites.{composite_count}
use Rattle.mv_plans.proofs.CompositeLiterals.{counted_is, collapsed_literals}
use Rattle.mv_gain.specs.declared.kept.KeptComposites.{KeptComposites}
use Rattle.mv_gain.specs.declared.row.Pair.{Pair}
use Rattle.mv_gain.specs.declared.row.Row.{Row}
use Rattle.mv_gain.specs.Judging.{IsAsked, IsMost, IsOver}
use Rattle.mv_gain.specs.Kept.{IsComposite, AreRight}
use Rattle.mv_gain.specs.Savings.{IsSaving, IsWideNet}
use Rattle.mv_gain.specs.Sums.{coming_of}
use Rattle.mv_gain.proofs.Around.{sum_within}
use Rattle.mv_gain.proofs.Entries.{readers_of, readers_ascend, all_found, sum_below}
use Rattle.mv_gain.proofs.Going.{wide_net}
use Rattle.mv_gain.proofs.Judged.{pair_counted}
use Rattle.mv_gain.proofs.Right.{RightRow, row_right, row_reads}

-- what is kept of a composite is no more than it has
no_more : (nets : List (Option FlatNet)) (n m : ℕ) (inner : Inner) (it : Option ℕ) → IsAsked nets n inner → IsComposite nets n m it → unwrap_or it 0 ≤ composite_count nets inner m
no_more nets n m inner None asked is = omega arith
no_more nets n m inner (Some count) asked is = omega (arith, counted_is nets inner m count (pair_counted nets n m count inner asked is))

-- nor is their sum, than that of all
coming_below : (nets : List (Option FlatNet)) (n : ℕ) (row : Row) (inner : Inner) (readers : List NetId) → RightRow nets n row → IsAsked nets n inner
    → IsAscending (λ m. reads_in nets m n) readers → row.coming ≤ sum_by (λ (r : NetId). composite_count nets inner r.0) readers
coming_below nets n row inner readers right asked are =
    let es = row.pairs.entries in
    let g : ℕ → ℕ = composite_count nets inner in
    let one : (m : ℕ) (it : Pair) → get nat_cmp row.pairs m ≡ Some it → coming_of it ≤ g m = λ m it h. no_more nets n m inner it.coming asked (right.each m it h).coming in
    let pairs = sum_below coming_of g es (all_found (λ (e : ℕ × Pair). coming_of e.1 ≤ g e.0) es right.summed.ordered one) in
    let within = sum_within g (readers_of es) readers (readers_ascend es right.summed.ordered) are.ascending (λ m h. are.members m ∙ row_reads nets n row right m h) in
    omega (arith, right.summed.coming, pairs, within)

-- so the literals rise where they are more than those that go
pub over_stays : (net : NetParts) (kept : KeptComposites) (n : NetId) (most : Option ℕ) → WellFormed net → AreRight net.nets kept → IfSome most (IsMost net.nets n) → IsOver kept n.0 most
    → IsSaving net n.0 → ⊥
over_stays net kept n most formed right given over saving =
    let inner = saving.composites.inner in
    let asked : IsAsked net.nets n.0 inner = record { of_net = saving.composites.of_net; known = saving.composites.known } in
    let is : IsMost net.nets n over.limit = subst (λ o. IfSome o (IsMost net.nets n)) over.limit_is given in
    let below = coming_below net.nets n.0 over.row inner is.readers (row_right net.nets kept n.0 over.row over.at right) asked is.all in
    let own : literals_at net.nets inner.net ≡ literals_at net.nets n = ap (λ k. table_literals (table_in (slot net.nets k))) asked.of_net in
    let all = subst (λ k. IsAscending (λ m. reads_in net.nets m k) is.readers) (sym asked.of_net) is.all in
    omega (arith, saving.no_more, collapsed_literals net inner is.readers formed asked.known all, own, is.sum, below, over.over)

-- a net whose composites are too wide doesn't save
pub wide_stays : (net : NetParts) (n : ℕ) → WellFormed net → IsWideNet net n → IsSaving net n → ⊥
wide_stays net n formed wide saving = (wide_net net n formed wide).1 saving.composites

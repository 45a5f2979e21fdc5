-- A net whose columns all have lower ranks isn't above itself, where ranks never rise.
use Rattle.std.proofs.Common.{◌≡◌, ℕ, ◌<◌, ◌≤◌, true, List, [], ◌∷◌, subst, arith, All}
use Rattle.mv_base.specs.declared.number.NetId.{NetId}
use Rattle.mv_graph.specs.Nets.{has_id, row}
use Rattle.mv_graph.specs.Above.{GoesOn, IsAbove, reads_by}
use Rattle.mv_graph.proofs.Columns.{id_at}
use Rattle.mv_cycles.specs.Ranks.{rank, AreLower, IsRanking}

-- what holds of all nets of a list holds of each number in it
each_of : (P : ℕ → Type 0) (nets : List NetId) (m : ℕ) → All (λ (c : NetId). P c.0) nets → has_id nets m ≡ true → P m
each_of P nets m all h =
    let none : NetId = record { 0 = 0 } in
    let at = id_at nets m h in
    subst P at.2 (all at.0 none at.1)

never_rises_along : (columns : List (List NetId)) (ranks : List ℕ) → IsRanking columns ranks → (last n : ℕ) (path : List ℕ) → GoesOn (reads_by columns) last n path → rank ranks last ≤ rank ranks n
never_rises_along columns ranks r last n [] g = each_of (λ m. rank ranks m ≤ rank ranks n) (row columns n) last (r.never_rises n) g
never_rises_along columns ranks r last n (k ∷ path) g =
    let first = each_of (λ m. rank ranks m ≤ rank ranks n) (row columns n) k (r.never_rises n) g.0 in
    let rest = never_rises_along columns ranks r last k path g.1 in
    omega arith

not_along : (columns : List (List NetId)) (ranks : List ℕ) (n : ℕ) → IsRanking columns ranks → AreLower ranks (row columns n) n → (path : List ℕ) → GoesOn (reads_by columns) n n path → ⊥
not_along columns ranks n r lower [] g =
    let low = each_of (λ m. rank ranks m < rank ranks n) (row columns n) n lower g in
    absurd (omega arith)
not_along columns ranks n r lower (k ∷ path) g =
    let low = each_of (λ m. rank ranks m < rank ranks n) (row columns n) k lower g.0 in
    let back = never_rises_along columns ranks r n k path g.1 in
    absurd (omega arith)

pub lower_not_above : (columns : List (List NetId)) (ranks : List ℕ) (n : ℕ) → IsRanking columns ranks → AreLower ranks (row columns n) n → IsAbove (reads_by columns) n n → ⊥
lower_not_above columns ranks n r lower a = not_along columns ranks n r lower a.path a.goes

-- nets without ranks
pub IsRanking-none : (columns : List (List NetId)) → IsRanking columns []
IsRanking-none columns = record { never_rises = λ n k d lt. omega arith }

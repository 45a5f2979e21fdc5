-- Ranks show that no net is above itself.
use Rattle.std.proofs.Common.{◌≡◌, ℕ, ◌<◌, Bool, true, List, [], ◌∷◌, arith}
use Rattle.mv_graph.specs.Above.{GoesOn, IsAcyclic}

-- some rank falls from each net to each that it reads
pub record IsRanked {N : Type 0} (reads : N → N → Bool) : Type 0 where
  pub rank : N → ℕ
  pub falls : (n m : N) → reads n m ≡ true → rank m < rank n

falls_along : {N : Type 0} (reads : N → N → Bool) (r : IsRanked reads) (last n : N) (path : List N) → GoesOn reads last n path → r.rank last < r.rank n
falls_along reads r last n [] g = r.falls n last g
falls_along reads r last n (m ∷ path) g =
    let first = r.falls n m g.0 in
    let rest = falls_along reads r last m path g.1 in
    omega arith

pub ranked_acyclic : {N : Type 0} (reads : N → N → Bool) → IsRanked reads → IsAcyclic reads
ranked_acyclic reads r = record { none = λ n a. let low = falls_along reads r n n a.path a.goes in absurd (omega arith) }

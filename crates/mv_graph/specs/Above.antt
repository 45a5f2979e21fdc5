-- The one relation by which nets stand above others: a path of at least one step.
use Rattle.std.specs.Prelude.{◌≡◌, ℕ, Bool, true, List, [], ◌∷◌}
use Rattle.mv_base.specs.declared.number.NetId.{NetId}
use Rattle.mv_graph.specs.Nets.{has_id, row}

-- nets of which each reads the next, and the last of which reads `last`
abbrev pub GoesOn : {N : Type 0} → (N → N → Bool) → N → N → List N → Type 0
GoesOn reads last n [] = reads n last ≡ true
GoesOn reads last n (m ∷ path) = (reads n m ≡ true) × GoesOn reads last m path

-- the net `above` is above the net n: a path leads to it from n, each step to a net that the one
-- before reads
pub record IsAbove {N : Type 0} (reads : N → N → Bool) (above n : N) : Type 0 where
  pub path : List N
  pub goes : GoesOn reads above n path

-- no net is above itself
pub record IsAcyclic {N : Type 0} (reads : N → N → Bool) : Type 0 where
  pub none : (n : N) → IsAbove reads n n → ⊥

-- net n reads net m: m is one of its columns
abbrev pub reads_by : List (List NetId) → ℕ → ℕ → Bool
reads_by columns n m = has_id (row columns n) m

-- Ranks of nets, by which a net is seen not to be above itself. For private functions.
use Rattle.std.specs.Prelude.{ℕ, ◌<◌, ◌≤◌, List, slice_index_or, All}
use Rattle.mv_base.specs.declared.number.NetId.{NetId}
use Rattle.mv_graph.specs.Nets.{row}

-- the rank of a net, and 0 where it has none
abbrev pub rank : List ℕ → ℕ → ℕ
rank ranks n = slice_index_or ranks n 0

-- each of these nets has a rank below that of the net n
abbrev pub AreLower : List ℕ → List NetId → ℕ → Type 0
AreLower ranks nets n = All (λ (m : NetId). rank ranks m.0 < rank ranks n) nets

-- none of these nets has a rank above that of the net n
abbrev pub AreNoHigher : List ℕ → List NetId → ℕ → Type 0
AreNoHigher ranks nets n = All (λ (m : NetId). rank ranks m.0 ≤ rank ranks n) nets

-- no rank rises from a net to one of its columns
pub record IsRanking (columns : List (List NetId)) (ranks : List ℕ) : Type 0 where
  pub never_rises : (n : ℕ) → AreNoHigher ranks (row columns n) n

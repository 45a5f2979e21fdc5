-- How lists are turned round: number by number, each net is put on the lists of the nets that it
-- names. For private functions.
use Rattle.std.specs.Prelude.{◌≡◌, ℕ, Bool, false, nat_eq, List, [], ◌∷◌, ◌++◌, length, if◌then◌else◌}
use Rattle.mv_base.specs.declared.number.NetId.{NetId}
use Rattle.mv_graph.specs.Nets.{has_id, row}

-- the net stands last in the list
abbrev pub is_last : List NetId → NetId → Bool
is_last [] k = false
is_last (n ∷ []) k = nat_eq n.0 k.0
is_last (_ ∷ m ∷ ns) k = is_last (m ∷ ns) k

-- the list with the net at its end, where it may stand already
abbrev pub with_last : List NetId → NetId → List NetId
with_last ns k = if is_last ns k then ns else ns ++ k ∷ []

-- k was put at the end of the list of each of these nets, and the other lists stayed
pub record IsPutOn (old : List (List NetId)) (nets : List NetId) (k : NetId)
    (new : List (List NetId)) : Type 0 where
  pub long : length new ≡ length old
  pub each : (m : ℕ) → row new m ≡ (if has_id nets m then with_last (row old m) k else row old m)
